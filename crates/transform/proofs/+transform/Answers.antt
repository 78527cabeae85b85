-- One number is its own spectrum; of more, the two calls leave the halves' spectra, and the butterfly merges them.
use Rattle.std.proofs.Common.{◌≡◌, ◌∙◌, ℕ, ◌+◌, ◌-◌, ◌^◌, ap, arith}
use Rattle.transform.proofs.Merging.{single, low-small, high-small, spectra-long, spectra-small, spectra-merged}
use Rattle.transform.proofs.+transform.Goals as goal

pub returns-then-inputs-eq0 : goal.returns-then-inputs-eq0
returns-then-inputs-eq0 t c = single c.args.a.now (c.requires.long ∙ ap (λ (n : ℕ). 2 ^ n) c.if-inputs-eq0.true)

pub transform-requires-2 : goal.transform-requires-2
transform-requires-2 t c =
    let h = c.split_at_mut-low.ensures in
    (omega arith, low-small _ c.args.inputs _ (omega arith) c.requires _ _ h.front h.back)

pub transform-requires-3 : goal.transform-requires-3
transform-requires-3 t c =
    let h = c.split_at_mut-low.ensures in
    (omega arith, high-small _ c.args.inputs _ (omega arith) c.requires _ _ h.front h.back)

pub butterfly-requires : goal.butterfly-requires
butterfly-requires t c =
    let h = c.split_at_mut-low.ensures in
    let u : c.args.inputs ≡ (c.args.inputs - 1) + 1 = omega arith in
    record {
      a_len = spectra-long _ _ _ u c.requires _ _ h.front h.back _ _ c.transform-2.ensures c.transform-3.ensures;
      within = spectra-small _ _ _ u c.requires _ _ h.front h.back _ _ c.transform-2.ensures c.transform-3.ensures;
    }

pub returns : goal.returns
returns t c =
    let h = c.split_at_mut-low.ensures in
    let u : c.args.inputs ≡ (c.args.inputs - 1) + 1 = omega arith in
    c.butterfly.ensures ∙ spectra-merged _ _ _ u c.requires _ _ h.front h.back _ _ c.transform-2.ensures c.transform-3.ensures
