use Rattle.std.proofs.Common.{◌≡◌, ◌⊎◌, inl, inr, ℕ, zero, suc, ◌<◌, [], ◌∷◌, length, get_or, refl, sym, ◌∙◌, ap, subst, ⊎_elim, arith}
use Rattle.mc_program.specs.Programs.{TypeTerm, int_type, state_type, variable_type}
use Rattle.mc_model.specs.Types.{argument_types}
use Rattle.mc_model.specs.Insts.{InstNode, unique, dead, bound}
use Rattle.mc_accepted.specs.Inclusion.{Path}
use Rattle.mc_accepted.specs.Tidy.{Leads, Tidy}
use Rattle.laws_language.proofs.Inclusions.{on_types_to}
use Rattle.laws_order.specs.code.Examples.{cell, source, graph, filled}
use Rattle.laws_order.specs.code.ExamplesOfTidiness.{list_type}
use Rattle.laws_order.proofs.TidyInsts.{tidy-at-state, ground-tidy}
use Rattle.laws_order.proofs.examples.tidiness.Goals as goal

variable_is : variable_type 0 ≡ state_type → ⊥
variable_is e = cc

int_is : int_type ≡ state_type → ⊥
int_is e = cc

-- a list that isn't empty is over `ground` at each of its types
filled_tidy : (t : TypeTerm) → Tidy source graph filled t
filled_tidy t [] j u l marked =
    let here = subst (λ n. (graph n ≡ unique) ⊎ (graph n ≡ dead)) (sym l.0) marked in
    ⊎_elim (λ (m : graph filled ≡ unique). cc) (λ (m : graph filled ≡ dead). cc) here
filled_tidy t ((s, k) ∷ path) j u l marked =
    on_types_to (argument_types source s t) _ (u ≡ state_type)
    (λ ts q.
    ⊎_elim
    (λ a. both k a.2.0 path j u (get_or ts k (variable_type 0)) a.2.1 marked)
    (λ none. absurd none) q) l
  where
    both : (k : ℕ) → k < 2 → (path : Path) (j : ℕ) (u v : TypeTerm) → Leads source graph path j u (get_or (1 ∷ 1 ∷ []) k 0) v → ((graph j ≡ unique) ⊎ (graph j ≡ dead)) → u ≡ state_type
    both zero lt path j u v l m = ground-tidy source graph refl v path j u l m
    both (suc zero) lt path j u v l m = ground-tidy source graph refl v path j u l m
    both (suc (suc k)) lt path j u v l m = absurd (omega (arith, lt))

pub returns : goal.returns
returns c = (
  (λ t. variable_is (t ((cell, 0) ∷ []) 2 (variable_type 0) (inl (refl, refl, (omega arith, (refl, refl)))) (inl refl))),
  (λ t. int_is (t ((cell, 0) ∷ []) 2 int_type (inl (refl, refl, (omega arith, (refl, refl)))) (inl refl))),
  filled_tidy (variable_type 0),
  filled_tidy list_type,
  (λ t. variable_is (t [] 2 (variable_type 0) (refl, refl) (inl refl))),
  tidy-at-state source graph 2 state_type refl,
)
