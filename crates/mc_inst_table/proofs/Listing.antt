-- Constructors that terms name, one behind another.
use Rattle.std.proofs.Common.{◌≡◌, ℕ, ◌+◌, ◌<◌, List, [], ◌∷◌, ◌++◌, map, length, get_or, take, refl, sym, ap, ap₂, ◌∙◌}
use Rattle.std.proofs.lemmas.List.{take_more}
use Rattle.mc_term_data.specs.Plain.{plain_term, term_list}
use Rattle.mc_term_data.specs.declared.term.Term.{Term}
use Rattle.mc_names.specs.Definitions.{symbol_name}
use Rattle.mc_accepted.specs.InstRules.{Functor}
use Rattle.mc_inst_table.specs.declared.inst.Functor.{Functor as Listed}
use Rattle.mc_inst_table.specs.Plain.{plain_functor}
use Rattle.mc_inst_table.specs.Written.{functor, functors}

functors_last :
    (ts : List Term) (t : Term)
    → functors (term_list (map plain_term (ts ++ t ∷ [])))
    ≡ functors (term_list (map plain_term ts)) ++ functor (symbol_name (plain_term t)) ∷ []
functors_last [] t = refl
functors_last (u ∷ ts) t = ap (λ fs. functor (symbol_name (plain_term u)) ∷ fs) (functors_last ts t)

plain_last : (fs : List Listed) (f : Listed) → map plain_functor (fs ++ f ∷ []) ≡ map plain_functor fs ++ plain_functor f ∷ []
plain_last [] f = refl
plain_last (g ∷ fs) f = ap (λ gs. plain_functor g ∷ gs) (plain_last fs f)

pub functors_more :
    (fs : List Listed) (f : Listed) (ts : List Term) (k : ℕ) (t : Term)
    → k < length ts → t ≡ get_or ts k t → plain_functor f ≡ functor (symbol_name (plain_term t))
    → map plain_functor fs ≡ functors (term_list (map plain_term (take k ts)))
    → map plain_functor (fs ++ f ∷ []) ≡ functors (term_list (map plain_term (take (k + 1) ts)))
functors_more fs f ts k t below at same before =
    plain_last fs f
    ∙ ap₂ (λ (gs : List Functor) (g : Functor). gs ++ g ∷ []) before
    (same ∙ ap (λ (u : Term). functor (symbol_name (plain_term u))) at)
    ∙ sym (functors_last (take k ts) (get_or ts k t))
    ∙ ap (λ (us : List Term). functors (term_list (map plain_term us))) (sym (take_more ts k t below))
