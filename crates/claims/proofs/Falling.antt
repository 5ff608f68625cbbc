-- The claims about ink that falls off, proved.
use mathlib.Core.List.{◌∷◌}
use mathlib.Core.Path.{refl, subst, sym}
use lib.Dec.{T_not, not_T}
use Rattle.claims.specs.Falling.{NoMeansWhole, SaysWhatFell, TurnsAreOne}
use Rattle.claims.specs.Formula.{Within}
use Rattle.claims.proofs.FormulaLaws.{image_is, offsets_are, within_is}
use Rattle.morphology.specs.Element.{offsets}
use Rattle.morphology.specs.Image.{image_set, on_frame}
use Rattle.morphology.specs.Morphology.{dilate}
use Rattle.morphology.specs.Point.{◌⊞◌}
use Rattle.morphology.proofs.FallsLaws.{falls_at, falls-clip, falls-some, on-falls}
use Rattle.morphology.proofs.FrameLaws.{OnFrame}
use Rattle.morphology.proofs.ImageLaws.{clip_on, image_on}
use Rattle.morphology.proofs.InTurnLaws.{turn-stays, turns_fall, turns-whole}

pub says_what_fell : SaysWhatFell
says_what_fell W H e image = (
  (λ t.
      let r = falls-some W H (offsets e) (image_set W H image) t in
      let z = r.0 ⊞ r.1 in
      (z, (r.0, r.1, (image_is W H image).to r.2, (offsets_are e).to r.3, refl), λ w. T_not (on_frame W H z) r.4 ((within_is W H).fro w))),
  (λ f.
      let d = f.1 in
      let z = d.0 ⊞ d.1 in
      falls_at W H (offsets e) (image_set W H image) (image_on W H image) d.0 d.1 ((image_is W H image).fro d.2) ((offsets_are e).fro d.3)
      (not_T (on_frame W H z) (λ t. f.2 (subst (Within W H) (sym d.4) ((within_is W H).to t))))),
)

pub no_means_whole : NoMeansWhole
no_means_whole W H e image =
    let X = image_set W H image in (
      falls-clip W H (offsets e) X (image_on W H image),
      (λ q. on-falls W H (offsets e) X (subst (OnFrame W H) q (clip_on W H (dilate (offsets e) X)))),
    )

pub turns_are_one : TurnsAreOne
turns_are_one W H B Bs c image =
    let X = image_set W H image in
    let on = image_on W H image in
    record {
      falls = turns_fall W H X on B Bs c;
      whole = λ e. ((turn-stays W H X on B Bs c e).1, turns-whole W H X on (B ∷ Bs) c e);
    }
