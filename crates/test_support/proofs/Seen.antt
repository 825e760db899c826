-- What tests of definitions have seen, piece by piece.
use Rattle.std.proofs.Common.{◌≡◌, ℕ, ◌+◌, ◌<◌, Bool, true, false, not, ◌||◌, List, [], ◌∷◌, ◌++◌, length, get_or, map, take, refl, sym, ap, ◌∙◌, subst}
use Rattle.std.specs.Cmp.Lexicographic.{nat_list_eq_equiv}
use Rattle.std.specs.List.{list_any}
use Rattle.std.specs.Set.{is_member}
use Rattle.std.specs.Str.{bytes_eq}
use Rattle.std.proofs.lemmas.List.{take_more, map-append}
use Rattle.mc_base.specs.NameSets.{put}
use Rattle.mc_model.specs.declared.inst.InstRef.{InstRef}
use Rattle.mc_model.specs.declared.inst.Choice.{Choice}
use Rattle.mc_accepted.specs.InstRules.{PlainChoice}
use Rattle.mc_insts.specs.Defining.{plain_choice, FitsThere, AllFitThere, IsUnlisted, ChoicesFit}

-- a name that isn't among others is none of them
one_false : (a b : Bool) → (a || b) ≡ false → (a ≡ false) × (b ≡ false)
one_false true b e = absurd (let x : true ≡ false = e in cc)
one_false false b e = (refl, e)

same_name : (x : List ℕ) → bytes_eq x x ≡ true
same_name x = nat_list_eq_equiv.refl x

unlike : (x y : List ℕ) → bytes_eq x y ≡ false → y ≡ x → ⊥
unlike x y h e = let t : bytes_eq x y ≡ true = subst (λ z. bytes_eq x z ≡ true) (sym e) (same_name x) in let f : false ≡ true = sym h ∙ t in cc

put_new : (names : List (List ℕ)) (x : List ℕ) → is_member bytes_eq names x ≡ false → put names x ≡ names ++ x ∷ []
put_new names x h = rw h refl

pub was_new : (b m : Bool) → b ≡ not m → b ≡ true → m ≡ false
was_new b true e f = absurd (let x : false ≡ true = sym e ∙ f in cc)
was_new b false e f = refl

-- insts and constructors, one more at the end
pub all_push : (n m : ℕ) (rs : List InstRef) (r : InstRef) → AllFitThere n m rs → FitsThere n m r → AllFitThere n m (rs ++ r ∷ [])
all_push n m [] r h f = (f, tt)
all_push n m (x ∷ rs) r h f = (h.0, all_push n m rs r h.1 f)

abbrev pub names_of : List Choice → List (List ℕ)
names_of cs = map (λ (c : Choice). c.name) cs

unlisted_push : (c : PlainChoice) (cs : List Choice) (d : Choice) → IsUnlisted c (map plain_choice cs) → (c.name ≡ d.name → ⊥) → IsUnlisted c (map plain_choice (cs ++ d ∷ []))
unlisted_push c [] d h f = ((λ e a. f e), tt)
unlisted_push c (x ∷ cs) d h f = (h.0, unlisted_push c cs d h.1 f)

pub record ChoicesSeen (n m : ℕ) (cs : List Choice) (k : ℕ) (names : List (List ℕ)) : Type 0 where
  pub fit : ChoicesFit n m (map plain_choice (take k cs))
  pub came : names ≡ names_of (take k cs)

module _ (n m : ℕ) where
  pub choices_push :
      (cs : List Choice) (d : Choice) → ChoicesFit n m (map plain_choice cs) → length d.args ≡ d.arity → AllFitThere n m d.args
      → is_member bytes_eq (names_of cs) d.name ≡ false → ChoicesFit n m (map plain_choice (cs ++ d ∷ []))
  choices_push [] d h a f new = (a, f, tt, tt)
  choices_push (x ∷ cs) d h a f new =
      let o = one_false (bytes_eq d.name x.name) (list_any (bytes_eq d.name) (names_of cs)) new in
      (h.0, h.1, unlisted_push (plain_choice x) cs d h.2 (unlike d.name x.name o.0), choices_push cs d h.3 a f o.1)

  pub choice_more :
      (cs : List Choice) (k : ℕ) (d : Choice) (names more : List (List ℕ)) → k < length cs → d ≡ get_or cs k d → ChoicesSeen n m cs k names
      → length d.args ≡ d.arity → AllFitThere n m d.args → is_member bytes_eq names d.name ≡ false → more ≡ put names d.name
      → ChoicesSeen n m cs (k + 1) more
  choice_more cs k d names more lt is seen a f new put_in =
      let t : take k cs ++ d ∷ [] ≡ take (k + 1) cs = ap (λ x. take k cs ++ x ∷ []) is ∙ sym (take_more cs k d lt) in
      record {
        fit = subst (λ xs. ChoicesFit n m (map plain_choice xs)) t
            (choices_push (take k cs) d seen.fit a f (subst (λ ns. is_member bytes_eq ns d.name ≡ false) seen.came new));
        came = put_in ∙ put_new names d.name new ∙ ap (λ ns. ns ++ d.name ∷ []) seen.came
            ∙ sym (map-append (λ (c : Choice). c.name) (take k cs) (d ∷ []))
            ∙ ap names_of t;
      }
