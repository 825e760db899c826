-- The numbers of the library's types may be read off its constructors; and what fits predicate by
-- predicate is the library.
use Rattle.std.proofs.Common.{◌≡◌, ◌↔◌, ◌⊎◌, ℕ, zero, suc, ◌<◌, ◌≤◌, Bool, false, IsTrue, List, [], ◌∷◌, length, get_or, map, Some, inl, inr, sym, ap, ◌∙◌, subst, arith}
use Rattle.std.proofs.lemmas.Bool.{cases_lt}
use Rattle.std.proofs.lemmas.List.{get_or-map}
use Rattle.mc_program.specs.Programs.{Predicate}
use Rattle.mc_program.specs.PlainPrograms.{plain_program, plain_pred, no_pred}
use Rattle.mc_program.specs.declared.builtin.Builtin.{Builtin}
use Rattle.mc_program.specs.declared.builtin.Builtin.TheVariants as B
use Rattle.mc_program.specs.declared.program.Pred.{Pred}
use Rattle.mc_program.specs.declared.program.Program.{Program}
use Rattle.mc_model.specs.Builtins.{Library}
use Rattle.mc_model.specs.Worlds.{library_of}
use Rattle.mc_accepted.specs.BuiltinTypes.{Library_types}
use Rattle.mc_self_check.specs.HasLibrary.{HasLibrary}
use Rattle.mc_self_check.specs.code.Predicates.{FitsBuiltin, FitsLibrary, types_in}

fits_at_types :
    (P : Program) (L : Library) (K : Library_types) (p : Predicate) (op : Builtin)
    → FitsBuiltin P L K p op → FitsBuiltin P L (types_in P L) p op
fits_at_types P L K p B.ToCharList fits =
    let At : ℕ → Type 0 =
    λ u. FitsBuiltin P L (record { list = u; result = K.result }) p B.ToCharList in
    let moved = subst At (sym fits.made.nil.of_type) fits in
    record {
      name = moved.name;
      types = moved.types;
      made = record { nil = moved.made.nil; cons = moved.made.cons };
    }
fits_at_types P L K p B.ReadLine fits =
    let At : ℕ → Type 0 =
    λ u. FitsBuiltin P L (record { list = K.list; result = u }) p B.ReadLine in
    let moved = subst At (sym fits.made.ok.of_type) fits in
    record {
      name = moved.name;
      types = moved.types;
      made = record { ok = moved.made.ok; eof = moved.made.eof };
    }
fits_at_types P L K p _ fits = record { name = fits.name; types = fits.types; made = tt }

pub library_at :
    (P : Program) (p : ℕ)
    → HasLibrary P
    → FitsLibrary P (library_of P) (types_in P (library_of P)) ((plain_program P).preds p)
library_at P p has op is =
    let named = has.1 p op is in
    fits_at_types P (library_of P) has.0 ((plain_program P).preds p) op
    (record { name = named.0; types = named.1; made = has.2 p op is })

-- what has a number that no predicate has is no builtin
not_past :
    (ps : List Pred) (p : ℕ) (op : Builtin)
    → length ps ≤ p → (get_or (map plain_pred ps) p no_pred).builtin ≡ Some op → ⊥
not_past [] p op past is = cc
not_past (q ∷ ps) zero op past is = absurd (omega arith)
not_past (q ∷ ps) (suc p) op past is = not_past ps p op (omega arith) is

past_or_there :
    (P : Program) (L : Library) (K : Library_types)
    → ((p : ℕ) → p < length P.preds → FitsLibrary P L K ((plain_program P).preds p))
    → (p : ℕ) → FitsLibrary P L K ((plain_program P).preds p)
past_or_there P L K fits p op is = on (cases_lt p (length P.preds))
  where
    on :
        (p < length P.preds) ⊎ (length P.preds ≤ p)
        → FitsBuiltin P L K ((plain_program P).preds p) op
    on (inl lt) = fits p lt op is
    on (inr past) = absurd (not_past P.preds p op past is)

pub library_there :
    (P : Program)
    → ((p : ℕ)
    → p < length P.preds
    → FitsLibrary P (library_of P) (types_in P (library_of P)) ((plain_program P).preds p))
    → HasLibrary P
library_there P fits =
    let L : Library = library_of P in
    let all : (p : ℕ) → FitsLibrary P L (types_in P L) ((plain_program P).preds p) =
    past_or_there P L (types_in P L) fits in (
      types_in P L,
      λ p op is. ((all p op is).name, (all p op is).types),
      λ p op is. (all p op is).made,
    )

-- whether a predicate fits is answered for the program's own library and types
pub answered :
    (P Q : Program) (L : Library) (K : Library_types) (b : Bool) (k : ℕ) (d : Pred)
    → Q ≡ P → L ≡ library_of P → K ≡ types_in Q L
    → k < length P.preds → d ≡ get_or P.preds k d
    → (IsTrue b ↔ FitsLibrary Q L K (plain_pred d))
    → IsTrue b
    ↔ FitsLibrary P (library_of P) (types_in P (library_of P)) ((plain_program P).preds k)
answered P Q L K b k d own lib types lt is so =
    let at : plain_pred d ≡ (plain_program P).preds k =
    ap plain_pred is ∙ sym (get_or-map plain_pred P.preds k d no_pred lt) in
    let first : IsTrue b ↔ FitsLibrary Q L (types_in Q L) (plain_pred d) =
    subst (λ (x : Library_types). IsTrue b ↔ FitsLibrary Q L x (plain_pred d)) types so in
    let second : IsTrue b ↔ FitsLibrary P L (types_in P L) (plain_pred d) =
    subst (λ (x : Program). IsTrue b ↔ FitsLibrary x L (types_in x L) (plain_pred d)) own first in
    let third : IsTrue b ↔ FitsLibrary P (library_of P) (types_in P (library_of P)) (plain_pred d) =
    subst (λ (x : Library). IsTrue b ↔ FitsLibrary P x (types_in P x) (plain_pred d)) lib second in
    subst (λ (x : Predicate). IsTrue b ↔ FitsLibrary P (library_of P) (types_in P (library_of P)) x) at third

-- where one predicate doesn't fit, the library isn't there
pub no_answer :
    (P Q : Program) (L : Library) (K : Library_types) (b : Bool) (k : ℕ) (d : Pred)
    → Q ≡ P → L ≡ library_of P → K ≡ types_in Q L
    → k < length P.preds → d ≡ get_or P.preds k d
    → (IsTrue b ↔ FitsLibrary Q L K (plain_pred d))
    → b ≡ false
    → IsTrue false ↔ HasLibrary P
no_answer P Q L K b k d own lib types lt is so fails = (
  λ h. cc,
  λ has.
      let yes = (answered P Q L K b k d own lib types lt is so).1 (library_at P k has) in cc,
)
