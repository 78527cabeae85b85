-- The part that `locate` names is the field.
use Rattle.text.proofs.Parts.{span-within, span-field}
use Rattle.text.proofs.field.Goals as goal

pub slice_bounds-result-end : goal.slice_bounds-result-end
slice_bounds-result-end c =
    let s = c.locate-s in
    span-within c.args.text.now c.args.k s.result.start s.result.end s.ensures.0 s.ensures.1

pub returns-clause-result_value : goal.returns-clause-result_value
returns-clause-result_value c =
    let s = c.locate-s in
    span-field c.args.text.now c.args.k s.result.start s.result.end s.ensures.0 s.ensures.1
