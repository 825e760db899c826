-- Stacks as lists, the topmost first.
use Rattle.std.proofs.Common.{◌≡◌, List, [], ◌∷◌, ◌++◌, map, reverse, sym, ap, ◌∙◌}
use Rattle.std.proofs.lemmas.List.{reverse-append}
use Rattle.mc_source.specs.Determinism.{Determinism, inferred, row_of}
use Rattle.mc_source.specs.declared.det.Det.{Det}
use Rattle.mc_det_constraints.specs.Skeletons.{top, below}

abbrev stack : List Det → List Determinism
stack ds = map row_of (reverse ds)

pub pushed : (ds es : List Det) (d : Det) → es ≡ ds ++ d ∷ [] → stack es ≡ row_of d ∷ stack ds
pushed ds es d e = ap stack e ∙ ap (map row_of) (reverse-append ds (d ∷ []))

pub popped_top : (ds es : List Det) (d : Det) → ds ≡ es ++ d ∷ [] → inferred (row_of d) ≡ inferred (top (stack ds))
popped_top ds es d e = ap (λ (s : List Determinism). inferred (top s)) (sym (pushed es ds d e))

pub popped_rest : (ds es : List Det) (d : Det) → ds ≡ es ++ d ∷ [] → stack es ≡ below (stack ds)
popped_rest ds es d e = ap below (sym (pushed es ds d e))
