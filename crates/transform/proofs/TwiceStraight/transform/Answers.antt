use Rattle.std.proofs.Common.{refl, ◌∙◌}
use Rattle.transform.proofs.Merging.{low-small, high-small, spectra-long, spectra-small, spectra-merged}
use Rattle.transform.proofs.TwiceStraight.transform.Goals as goal

pub transform-requires : goal.transform-requires
transform-requires g c = let h = c.split_at_mut-low.ensures in low-small _ _ _ refl c.requires _ _ h.front h.back

pub transform-requires-2 : goal.transform-requires-2
transform-requires-2 g c = let h = c.split_at_mut-low.ensures in high-small _ _ _ refl c.requires _ _ h.front h.back

pub butterfly-requires : goal.butterfly-requires
butterfly-requires g c = let h = c.split_at_mut-low.ensures in
    record {
      a_len = spectra-long _ _ _ refl c.requires _ _ h.front h.back _ _ c.transform.ensures c.transform-2.ensures;
      within = spectra-small _ _ _ refl c.requires _ _ h.front h.back _ _ c.transform.ensures c.transform-2.ensures;
    }

pub returns : goal.returns
returns g c = let h = c.split_at_mut-low.ensures in
    c.butterfly.ensures ∙ spectra-merged _ _ _ refl c.requires _ _ h.front h.back _ _ c.transform.ensures c.transform-2.ensures
