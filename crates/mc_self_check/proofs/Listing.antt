-- What a place in a list tells of the list, and what is asked of the arguments of a constructor that
-- a type lists.
use Rattle.std.proofs.Common.{◌≡◌, ◌↔◌, ◌<◌, ℕ, zero, suc, Bool, true, false, not, List, [], ◌∷◌, length, get_or, Some, None, inl, inr, refl, sym, ap, ◌∙◌, subst, arith}
use Rattle.std.specs.Prelude.{IsTrue}
use Rattle.std.proofs.lemmas.List.{get_or-map}
use Rattle.mc_program.specs.Programs.{TypeTerm}
use Rattle.mc_program.specs.PlainPrograms.{plain_program}
use Rattle.mc_program.specs.declared.program.Program.{Program}
use Rattle.mc_program.specs.declared.program.TypeDef.{TypeDef}
use Rattle.mc_model.specs.Lists.{In}
use Rattle.mc_accepted.specs.ProperTypes.{EachBelow, EachProper}
use Rattle.mc_procs.specs.Procedures.{parameters_in}
use Rattle.mc_self_check.specs.code.Symbols.{ArgumentsFit}

pub in_at : (x : ℕ) (xs : List ℕ) (k : ℕ) → k < length xs → get_or xs k 0 ≡ x → In x xs
in_at x [] k lt is = absurd (omega arith)
in_at x (y ∷ ys) zero lt is = inl (sym is)
in_at x (y ∷ ys) (suc k) lt is = inr (in_at x ys k (omega arith) is)

pub parameters_at : (P : Program) (u : ℕ) (d : TypeDef) → u < length P.types → d ≡ get_or P.types u d → parameters_in P u ≡ Some d.params
parameters_at P u d lt is =
    get_or-map (λ (t : TypeDef). Some t.params) P.types u d None lt
    ∙ ap (λ (t : TypeDef). Some t.params) (sym is)

pub symbols_at : (P : Program) (u : ℕ) (d : TypeDef) → u < length P.types → d ≡ get_or P.types u d → (plain_program P).symbols_of u ≡ d.symbols
symbols_at P u d lt is =
    get_or-map (λ (t : TypeDef). t.symbols) P.types u d [] lt
    ∙ ap (λ (t : TypeDef). t.symbols) (sym is)

pub not_listed : (P : Program) (s u : ℕ) (ts : List TypeTerm) (d : TypeDef) (listed : Bool) → u < length P.types → d ≡ get_or P.types u d → ((EachBelow d.params ts × EachProper (parameters_in P) ts) → ⊥) → (IsTrue listed ↔ In s d.symbols) → IsTrue (not listed) ↔ ArgumentsFit (plain_program P) (parameters_in P) s u ts
not_listed P s u ts d true lt is unfit among =
    (λ h. cc, λ fits. absurd (unfit (fits d.params (parameters_at P u d lt is) (subst (In s) (sym (symbols_at P u d lt is)) (among.0 refl)))))
not_listed P s u ts d false lt is unfit among =
    (λ h k e i. let t : IsTrue false = among.1 (subst (In s) (symbols_at P u d lt is) i) in cc, λ fits. refl)
