pub mod KindWords
