use Rattle.std.proofs.Common.{◌-◌, ◌∙◌, refl, rules, tests}
use Rattle.std.specs.List.{range_with_len}
use Rattle.std.proofs.lemmas.Iterator.{YieldsList-from_range}
use Rattle.std.proofs.lemmas.Iterator.Search.{all_from_yields_List}
use Rattle.text.specs.Text.{field_of, number_of}
use Rattle.fields.specs.Fields.{is_number}
use Rattle.fields.proofs.LineTests.{numbers_all}
use Rattle.fields.proofs.numbers.Goals as goal

pub returns : goal.returns
returns c =
    let a = c.args in
    all_from_yields_List {all = range_with_len a.from (a.to - a.from)} (λ k. is_number (number_of (field_of a.line.now k))) _ _ _ c.all.ensures.ran (YieldsList-from_range a.from a.to _ (cc) refl) (λ x b q k. search (rules, tests)) ∙ numbers_all a.line.now a.from (a.to - a.from)
