-- The items of a name among the items of a file.
use Rattle.std.proofs.Common.{◌≡◌, ℕ, ◌+◌, ◌<◌, Bool, true, false, cond, ◌&&◌, nat_eq, List, [], ◌∷◌, ◌++◌, map, length, get_or, drop, Option, Some, None, Bor, Vec, zero, suc, refl, ap, sym, ◌∙◌, append_assoc, arith}
use Rattle.std.specs.Option.{option_to_list}
use Rattle.std.specs.Str.{bytes_eq}
use Rattle.std.proofs.lemmas.List.{at_drop_more}
use Rattle.mc_source.specs.declared.place.Place.{Place}
use Rattle.mc_decl_syntax.specs.Plain.{PlainDecl}
use Rattle.mc_decl_syntax.specs.declared.entry.Entry.{Entry}
use Rattle.mc_decl_syntax.specs.Entries.{plain_entry, File}
use Rattle.mc_names.specs.Linked.{Linked}
use Rattle.mc_names.specs.code.Index.{listed}
use Rattle.mc_signatures.specs.WrittenModes.{Callable, callable, same_sort, is_that, mode_by, modes_by, modes_among}
use Rattle.mc_signatures.specs.declared.by_name.ItemsByName.{ItemsByName}
use Rattle.mc_signatures.specs.code.ByName.{entry_behind, items_kept, if_named, of_name, AreIndices}

-- a name that is kept, and the items of a group
abbrev pub its_name : Bor (List ℕ) → List ℕ
its_name k = k.now

abbrev pub its_items : {X : Type 0} → Vec (Bor Entry) X → File
its_items v = map entry_behind v.items

-- one item more is indexed
pub items_more :
    (w : List ℕ) (before after : File) (es : List Entry) (k : ℕ) (e : Entry)
    → k < length es → e ≡ get_or es k e
    → after ≡ before ++ if_named w (callable (plain_entry e).0) (plain_entry e)
    → before ++ of_name w (map plain_entry (drop k es)) ≡ after ++ of_name w (map plain_entry (drop (k + 1) es))
items_more w before after es k e below at is =
    let rest = of_name w (map plain_entry (drop (k + 1) es)) in
    let one : Entry → File = λ u. if_named w (callable (plain_entry u).0) (plain_entry u) in
    at_drop_more (λ us. before ++ of_name w (map plain_entry us)) es k e below
    ∙ ap (λ (u : Entry). before ++ (one u ++ rest)) (sym at)
    ∙ sym (append_assoc before (one e) rest)
    ∙ ap (λ us. us ++ rest) (sym is)

-- one file more is indexed
pub indices_more :
    (index now : List ItemsByName) (i : ItemsByName) (done after : List File) (f : File)
    → AreIndices index done → length index ≡ length done
    → now ≡ index ++ i ∷ [] → after ≡ done ++ f ∷ []
    → ((w : List ℕ) → listed (items_kept i) w ≡ of_name w f)
    → AreIndices now after
indices_more index now i done after f are n e g h j w = rw (e, g) (at_place index done j are n)
  where
    at_place :
        (index : List ItemsByName) (done : List File) (j : ℕ)
        → AreIndices index done → length index ≡ length done
        → listed (get_or (map items_kept (index ++ i ∷ [])) j []) w ≡ of_name w (get_or (done ++ f ∷ []) j [])
    at_place [] [] zero are n = h w
    at_place [] [] (suc j) are n = refl
    at_place [] (d ∷ ds) j are n = absurd (omega (arith, n))
    at_place (x ∷ xs) [] j are n = absurd (omega (arith, n))
    at_place (x ∷ xs) (d ∷ ds) zero are n = are 0 w
    at_place (x ∷ xs) (d ∷ ds) (suc j) are n = at_place xs ds j (λ k v. are (suc k) v) (omega (arith, n))

-- an item of another name declares no mode of it
not_that : (x y : Callable) → bytes_eq x.id.name y.id.name ≡ false → is_that x (Some y) ≡ false
not_that x y h = rw h (last (same_sort x.is_function y.is_function) (nat_eq x.id.arity y.id.arity))
  where
    last : (a b : Bool) → (a && (b && false)) ≡ false
    last true true = refl
    last true false = refl
    last false b = refl

module _ (l : Linked) (own : ℕ) (x : Callable) where
  one_of_name :
      (e : PlainDecl × Place) (c : Option Callable) (es more : File)
      → callable e.0 ≡ c → modes_among l own x more ≡ modes_among l own x es
      → modes_among l own x (if_named x.id.name c e ++ more) ≡ modes_by l own x e ++ modes_among l own x es
  one_of_name e None es more p same =
      same ∙ ap (λ c. cond (is_that x c) (option_to_list (mode_by l own e)) [] ++ modes_among l own x es) (sym p)
  one_of_name e (Some y) es more p same = by (bytes_eq x.id.name y.id.name) refl
    where
      by :
          (b : Bool) → bytes_eq x.id.name y.id.name ≡ b
          → modes_among l own x (cond b (e ∷ []) [] ++ more) ≡ modes_by l own x e ++ modes_among l own x es
      by true h = ap (λ rest. modes_by l own x e ++ rest) same
      by false h =
          same
          ∙ ap (λ b. cond b (option_to_list (mode_by l own e)) [] ++ modes_among l own x es) (sym (ap (is_that x) p ∙ not_that x y h))

  -- the modes of one are among the items of its name
  pub among_named : (es : File) → modes_among l own x (of_name x.id.name es) ≡ modes_among l own x es
  among_named [] = refl
  among_named (e ∷ es) = one_of_name e (callable e.0) es (of_name x.id.name es) refl (among_named es)
