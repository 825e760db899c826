-- Types over the numbers of their free places.
use Rattle.std.proofs.Common.{◌≡◌, ℕ, zero, suc, ◌+◌, ◌-◌, ◌<◌, ◌≤◌, Bool, true, false, cond, nat_eq, ◌||◌, List, [], ◌∷◌, ◌++◌, map, take, length, get_or, refl, sym, ap, ap₂, ◌∙◌, subst, arith, append_assoc, append-nil}
use Rattle.std.specs.Prelude.{nat_lt}
use Rattle.std.proofs.lemmas.Bool.{lt-ltb, le-ltb}
use Rattle.std.proofs.lemmas.List.{map-append, map_push, take_all}
use Rattle.mc_program.specs.Programs.{TypeTerm, variable_type, union_type, TypeTerms, no_types, type_then}
use Rattle.mc_program.specs.PlainPrograms.{plain_type, type_terms}
use Rattle.mc_program.specs.declared.ty.Ty as T
use Rattle.mc_program.specs.declared.ty.Ty.{Ty}
use Rattle.mc_model.specs.Lists.{is_in, once, from}
use Rattle.mc_model.specs.Types.{instance_of, instances_of}
use Rattle.mc_accepted.specs.MostGeneral.{variables_of, variables_of_all, variables_of_each, at_least, generalised, type_at}
use Rattle.mc_types.specs.Trees.{of_name, applied, with_argument}
use Rattle.mc_types.specs.declared.cells.TypeName.{TypeName}
use Rattle.mc_types.specs.declared.cells.TypeName.TheVariants as N
use Rattle.mc_types.specs.declared.written_types.Written.{Written, Free, Rigid, Named, App'}
use Rattle.mc_typecheck.specs.WrittenTypes.{type_written}
use Rattle.mc_goals.proofs.Lists.{itself, is_in-append}
use Rattle.laws_made_types.specs.Makes.{kept}
use Rattle.mc_typecheck.specs.VariableTypes.{free_of, free_in, number_of, ArePlain}
use Rattle.mc_typecheck.specs.code.Numbering.{Knows}
use Rattle.mc_typecheck.specs.code.WrittenOut.{IsWrittenOut, IsApplied, AllOut, OutSoFar, asked_for}
use Rattle.mc_typecheck.specs.declared.numbers.Numbers.{Numbers}
use Rattle.mc_typecheck.proofs.Bounds.{plain-Var, plain-Union}
use Rattle.mc_typecheck.proofs.Numbering.{number_stays, of_number, are_numbered}

-- VARIABLES THAT ARE NOT RIGID

least_step : (t : Bool) (v : ℕ) (l m : List ℕ) → cond t (l ++ m) (v ∷ (l ++ m)) ≡ cond t l (v ∷ l) ++ m
least_step true v l m = refl
least_step false v l m = refl

least_both : (r : ℕ) (xs ys : List ℕ) → at_least r (xs ++ ys) ≡ at_least r xs ++ at_least r ys
least_both r [] ys = refl
least_both r (x ∷ xs) ys = ap (λ l. cond (nat_lt x r) l (x ∷ l)) (least_both r xs ys) ∙ least_step (nat_lt x r) x (at_least r xs) (at_least r ys)

-- WITH ONE ARGUMENT MORE

argument_variables : (x : TypeTerm) (ts : TypeTerms) → variables_of_all (with_argument x ts) ≡ variables_of_all ts ++ variables_of x
argument_variables x no_types = append-nil (variables_of x)
argument_variables x (type_then t ts) = ap (λ l. variables_of t ++ l) (argument_variables x ts) ∙ sym (append_assoc (variables_of t) (variables_of_all ts) (variables_of x))

argument_instance : (τ : ℕ → TypeTerm) (x : TypeTerm) (ts : TypeTerms) → instances_of τ (with_argument x ts) ≡ with_argument (instance_of τ x) (instances_of τ ts)
argument_instance τ x no_types = refl
argument_instance τ x (type_then t ts) = ap (type_then (instance_of τ t)) (argument_instance τ x ts)

pub argument_listed : (x : TypeTerm) (ts : List TypeTerm) → type_terms (ts ++ x ∷ []) ≡ with_argument x (type_terms ts)
argument_listed x [] = refl
argument_listed x (t ∷ ts) = ap (type_then t) (argument_listed x ts)

pub union_applied : (u : ℕ) (args more : List Ty) (x : Ty) → more ≡ args ++ x ∷ [] → IsApplied (plain_type (T.Union u args)) (plain_type x) (plain_type (T.Union u more))
union_applied u args more x grown = record {
  name = u;
  args = type_terms (map plain_type args);
  function = plain-Union u args;
  is = plain-Union u more ∙ ap (union_type u) (ap (λ (ts : List Ty). type_terms (map plain_type ts)) grown ∙ ap type_terms (map_push plain_type args x) ∙ argument_listed (plain_type x) (map plain_type args));
}

-- EACH FORM

map_agrees : (f g : ℕ → ℕ) (ks : List ℕ) → ((k : ℕ) → is_in k ks ≡ true → f k ≡ g k) → map f ks ≡ map g ks
map_agrees f g [] h = refl
map_agrees f g (k ∷ ks) h = ap₂ (λ x xs. x ∷ xs) (h k (ap (λ t. cond t true (is_in k ks)) (itself k))) (map_agrees f g ks (λ j i. h j (later j k ks i)))
  where
    later : (j k : ℕ) (ks : List ℕ) → is_in j ks ≡ true → is_in j (k ∷ ks) ≡ true
    later j k ks i = ap (λ b. cond (nat_eq j k) true b) i ∙ all_true (nat_eq j k)
      where
        all_true : (t : Bool) → cond t true true ≡ true
        all_true true = refl
        all_true false = refl

pub out_as : (r : ℕ) (f g : ℕ → ℕ) (w : Written) (t : TypeTerm) → ((k : ℕ) → is_in k (free_of w) ≡ true → f k ≡ g k) → IsWrittenOut r f w t → IsWrittenOut r g w t
out_as r f g w t same o = record {
  variables = o.variables ∙ map_agrees f g (free_of w) same;
  stands = λ σ τ h rigid. o.stands σ τ (λ k i. ap τ (same k i) ∙ h k i) rigid;
}

free_out : (r : ℕ) (f : ℕ → ℕ) (k : ℕ) → r ≤ f k → IsWrittenOut r f (Free k) (variable_type (f k))
free_out r f k le = record {
  variables = ap (λ b. cond b [] (f k ∷ [])) (le-ltb (f k) r le);
  stands = λ σ τ h rigid. h k (ap (λ t. cond t true false) (itself k));
}

rigid_out : (r : ℕ) (f : ℕ → ℕ) (v : ℕ) → v < r → IsWrittenOut r f (Rigid v) (variable_type v)
rigid_out r f v lt = record {
  variables = ap (λ b. cond b [] (v ∷ [])) (lt-ltb v r lt);
  stands = λ σ τ h rigid. rigid v lt;
}

name_variables : (r : ℕ) (n : TypeName) → at_least r (variables_of (of_name n)) ≡ []
name_variables r N.Int = refl
name_variables r N.Char = refl
name_variables r N.Str = refl
name_variables r N.Io = refl
name_variables r (N.Union u) = refl

name_instance : (τ : ℕ → TypeTerm) (n : TypeName) → instance_of τ (of_name n) ≡ of_name n
name_instance τ N.Int = refl
name_instance τ N.Char = refl
name_instance τ N.Str = refl
name_instance τ N.Io = refl
name_instance τ (N.Union u) = refl

name_out : (r : ℕ) (f : ℕ → ℕ) (n : TypeName) → IsWrittenOut r f (Named n) (of_name n)
name_out r f n = record {
  variables = name_variables r n;
  stands = λ σ τ h rigid. name_instance τ n;
}

in_left : (k : ℕ) (xs ys : List ℕ) → is_in k xs ≡ true → is_in k (xs ++ ys) ≡ true
in_left k xs ys h = is_in-append k xs ys ∙ ap (λ b. b || is_in k ys) h

in_right : (k : ℕ) (xs ys : List ℕ) → is_in k ys ≡ true → is_in k (xs ++ ys) ≡ true
in_right k xs ys h = is_in-append k xs ys ∙ ap (λ b. is_in k xs || b) h ∙ or_true (is_in k xs)
  where
    or_true : (b : Bool) → (b || true) ≡ true
    or_true true = refl
    or_true false = refl

applied_out : (r : ℕ) (n : ℕ → ℕ) (p q : _) (f x : Written) (tf tx t : TypeTerm) → IsWrittenOut r n f tf → IsWrittenOut r n x tx → IsApplied tf tx t → IsWrittenOut r n (App' p f q x) t
applied_out r n p q f x tf tx t of ox is = record {
  variables =
      ap (λ y. at_least r (variables_of y)) is.is
      ∙ ap (at_least r) (argument_variables tx is.args)
      ∙ least_both r (variables_of_all is.args) (variables_of tx)
      ∙ ap₂ (λ xs ys. xs ++ ys) (ap (λ y. at_least r (variables_of y)) (sym is.function) ∙ of.variables) ox.variables
      ∙ sym (map-append n (free_of f) (free_of x));
  stands = λ σ τ h rigid.
      ap (instance_of τ) is.is
      ∙ ap (union_type is.name) (argument_instance τ tx is.args)
      ∙ ap₂ applied (ap (instance_of τ) (sym is.function) ∙ of.stands σ τ (λ k i. h k (in_left k (free_of f) (free_of x) i)) rigid) (ox.stands σ τ (λ k i. h k (in_right k (free_of f) (free_of x) i)) rigid);
}

-- WHAT IS MADE OF EACH FORM

abbrev pub Made : (r : ℕ) (seen : List ℕ) (w : Written) (t : TypeTerm) (now : Numbers) → Type 0
Made r seen w t now = Knows r (seen ++ free_of w) now × IsWrittenOut r (number_of r (seen ++ free_of w)) w t

pub free_made : (r : ℕ) (seen : List ℕ) (w : Written) (place number : ℕ) (now : Numbers) → w ≡ Free place → Knows r (seen ++ place ∷ []) now × (number ≡ number_of r (seen ++ place ∷ []) place) → Made r seen w (plain_type (T.Var number)) now
free_made r seen w place number now is h =
    let f = number_of r (seen ++ place ∷ []) in
    let Q : Written → Type 0 = λ x. Made r seen x (plain_type (T.Var number)) now in
    let R : TypeTerm → Type 0 = λ y. IsWrittenOut r f (Free place) y in
    subst Q (sym is) (h.0, subst R (sym (plain-Var number ∙ ap variable_type h.1)) (free_out r f place (omega arith)))

pub rigid_made : (r : ℕ) (seen : List ℕ) (w : Written) (v : ℕ) (now : Numbers) → w ≡ Rigid v → v < now.rigid → Knows r seen now → Made r seen w (plain_type (T.Var v)) now
rigid_made r seen w v now is lt k =
    let Q : Written → Type 0 = λ x. Made r seen x (plain_type (T.Var v)) now in
    let f = number_of r (seen ++ []) in
    let R : TypeTerm → Type 0 = λ y. IsWrittenOut r f (Rigid v) y in
    let S : List ℕ → Type 0 = λ l. Knows r l now in
    subst Q (sym is) (subst S (sym (append-nil seen)) k, subst R (sym (plain-Var v)) (rigid_out r f v (let e = k.rigid in omega (arith, lt, e))))

pub name_made : (r : ℕ) (seen : List ℕ) (w : Written) (n : TypeName) (t : Ty) (now : Numbers) → w ≡ Named n → plain_type t ≡ of_name n → Knows r seen now → Made r seen w (plain_type t) now
name_made r seen w n t now is e k =
    let Q : Written → Type 0 = λ x. Made r seen x (plain_type t) now in
    let f = number_of r (seen ++ []) in
    let R : TypeTerm → Type 0 = λ y. IsWrittenOut r f (Named n) y in
    let S : List ℕ → Type 0 = λ l. Knows r l now in
    subst Q (sym is) (subst S (sym (append-nil seen)) k, subst R (sym e) (name_out r f n))

pub applied_made : (r : ℕ) (seen : List ℕ) (w : Written) (p q : _) (f x : Written) (tf tx t : TypeTerm) (mid now : Numbers) → w ≡ App' p f q x → Made r seen f tf mid → Made r (seen ++ free_of f) x tx now → IsApplied tf tx t → Made r seen w t now
applied_made r seen w p q f x tf tx t mid now is mf mx ap' =
    let same = append_assoc seen (free_of f) (free_of x) in
    let all = (seen ++ free_of f) ++ free_of x in
    let Q : Written → Type 0 = λ y. Made r seen y t now in
    let S : List ℕ → Type 0 = λ l. Knows r l now × IsWrittenOut r (number_of r l) (App' p f q x) t in
    let of = out_as r (number_of r (seen ++ free_of f)) (number_of r all) f tf (λ k i. sym (number_stays r k (seen ++ free_of f) (free_of x) (in_right k seen (free_of f) i))) mf.1 in
    subst Q (sym is) (subst S same (mx.0, applied_out r (number_of r all) p q f x tf tx t of mx.1 ap'))

-- ALL TYPES

all_as : (r : ℕ) (f g : ℕ → ℕ) (ws : List Written) (ts : List TypeTerm) → ((k : ℕ) → is_in k (free_in ws) ≡ true → f k ≡ g k) → AllOut r f ws ts → AllOut r g ws ts
all_as r f g [] [] same h = tt
all_as r f g [] (t ∷ ts) same h = h
all_as r f g (w ∷ ws) [] same h = h
all_as r f g (w ∷ ws) (t ∷ ts) same h = (
  out_as r f g w t (λ k i. same k (in_left k (free_of w) (free_in ws) i)) h.0,
  all_as r f g ws ts (λ k i. same k (in_right k (free_of w) (free_in ws) i)) h.1,
)

all_push : (r : ℕ) (f : ℕ → ℕ) (ws : List Written) (ts : List TypeTerm) (w : Written) (t : TypeTerm) → AllOut r f ws ts → IsWrittenOut r f w t → AllOut r f (ws ++ w ∷ []) (ts ++ t ∷ [])
all_push r f [] [] w t h o = (o, tt)
all_push r f [] (x ∷ ts) w t h o = absurd h
all_push r f (x ∷ ws) [] w t h o = absurd h
all_push r f (x ∷ ws) (y ∷ ts) w t h o = (h.0, all_push r f ws ts w t h.1 o)

free_push : (ws : List Written) (w : Written) → free_in (ws ++ w ∷ []) ≡ free_in ws ++ free_of w
free_push [] w = append-nil (free_of w)
free_push (x ∷ ws) w = ap (λ l. free_of x ++ l) (free_push ws w) ∙ sym (append_assoc (free_of x) (free_in ws) (free_of w))

pub out_first : (r : ℕ) (types : List Ty) (n : Numbers) → types ≡ [] → Knows r [] n → OutSoFar r [] (map plain_type types) n
out_first r types n none k =
    let Q : List Ty → Type 0 = λ ts. AllOut r (number_of r []) [] (map plain_type ts) in
    record { knows = k; out = subst Q (sym none) tt }

-- one type more, or none where it isn't asked for
pub out_more : (r : ℕ) (front : List Written) (w : Written) (types more : List Ty) (t : Ty) (n m : Numbers) → more ≡ types ++ t ∷ [] → Made r (free_in front) w (plain_type t) m → OutSoFar r front (map plain_type types) n → OutSoFar r (front ++ w ∷ []) (map plain_type more) m
out_more r front w types more t n m grown made so =
    let all = free_in front ++ free_of w in
    let met : free_in (front ++ w ∷ []) ≡ all = free_push front w in
    let S : List ℕ → Type 0 = λ l. Knows r l m in
    let Q : List ℕ → Type 0 = λ l. AllOut r (number_of r l) (front ++ w ∷ []) (map plain_type types ++ plain_type t ∷ []) in
    let R : List TypeTerm → Type 0 = λ ts. AllOut r (number_of r (free_in (front ++ w ∷ []))) (front ++ w ∷ []) ts in
    let kept_so = all_as r (number_of r (free_in front)) (number_of r all) front (map plain_type types) (λ j i. sym (number_stays r j (free_in front) (free_of w) i)) so.out in
    record {
      knows = subst S (sym met) made.0;
      out =
          subst R (sym (ap (map plain_type) grown ∙ map_push plain_type types t))
          (subst Q (sym met) (all_push r (number_of r all) front (map plain_type types) w (plain_type t) kept_so made.1));
    }

pub out_asked : (r : ℕ) (front : List Written) (asked : Bool) (w : Written) (types more : List Ty) (t : Ty) (n m : Numbers) → asked ≡ true → more ≡ types ++ t ∷ [] → Made r (free_in front) w (plain_type t) m → OutSoFar r front (map plain_type types) n → OutSoFar r (front ++ asked_for asked w) (map plain_type more) m
out_asked r front asked w types more t n m e grown made so =
    let Q : List Written → Type 0 = λ ws. OutSoFar r ws (map plain_type more) m in
    subst Q (sym (ap (λ b. front ++ asked_for b w) e)) (out_more r front w types more t n m grown made so)

pub kept_none : (bs : List Bool) → kept {A = Written} bs [] ≡ []
kept_none [] = refl
kept_none (b ∷ bs) = refl

-- one place more
kept_next : (flags : List Bool) (ws : List Written) (k : ℕ) (d : Written) → k < length ws → kept flags (take (suc k) ws) ≡ kept flags (take k ws) ++ asked_for (get_or flags k false) (get_or ws k d)
kept_next flags [] k d lt = absurd (omega (arith, lt))
kept_next [] (w ∷ ws) zero d lt = refl
kept_next [] (w ∷ ws) (suc k) d lt = refl
kept_next (true ∷ bs) (w ∷ ws) zero d lt = ap (λ us. w ∷ us) (kept_none bs)
kept_next (false ∷ bs) (w ∷ ws) zero d lt = kept_none bs
kept_next (true ∷ bs) (w ∷ ws) (suc k) d lt = ap (λ us. w ∷ us) (kept_next bs ws k d (omega (arith, lt)))
kept_next (false ∷ bs) (w ∷ ws) (suc k) d lt = kept_next bs ws k d (omega (arith, lt))

pub out_next : (r : ℕ) (flags : List Bool) (ws : List Written) (k : ℕ) (w : Written) (asked : Bool) (types : List Ty) (n : Numbers) → k < length ws → asked ≡ get_or flags k false → w ≡ get_or ws k w → OutSoFar r (kept flags (take k ws) ++ asked_for asked w) (map plain_type types) n → OutSoFar r (kept flags (take (k + 1) ws)) (map plain_type types) n
out_next r flags ws k w asked types n lt flag is so =
    let Q : List Written → Type 0 = λ us. OutSoFar r us (map plain_type types) n in
    let e : k + 1 ≡ suc k = omega arith in
    subst Q (ap (λ us. kept flags (take k ws) ++ us) (ap₂ asked_for flag is) ∙ sym (kept_next flags ws k w lt) ∙ ap (λ j. kept flags (take j ws)) (sym e)) so

-- WHAT THEY SAY

all_long : (r : ℕ) (f : ℕ → ℕ) (ws : List Written) (ts : List TypeTerm) → AllOut r f ws ts → length ts ≡ length ws
all_long r f [] [] h = refl
all_long r f [] (t ∷ ts) h = absurd h
all_long r f (w ∷ ws) [] h = absurd h
all_long r f (w ∷ ws) (t ∷ ts) h = ap suc (all_long r f ws ts h.1)

all_variables : (r : ℕ) (f : ℕ → ℕ) (ws : List Written) (ts : List TypeTerm) → AllOut r f ws ts → at_least r (variables_of_each ts) ≡ map f (free_in ws)
all_variables r f [] [] h = refl
all_variables r f [] (t ∷ ts) h = absurd h
all_variables r f (w ∷ ws) [] h = absurd h
all_variables r f (w ∷ ws) (t ∷ ts) h =
    least_both r (variables_of t) (variables_of_each ts)
    ∙ ap₂ (λ xs ys. xs ++ ys) h.0.variables (all_variables r f ws ts h.1)
    ∙ sym (map-append f (free_of w) (free_in ws))

all_at : (r : ℕ) (f : ℕ → ℕ) (ws : List Written) (ts : List TypeTerm) (v : ℕ) (d : Written) (e : TypeTerm) → v < length ws → AllOut r f ws ts → IsWrittenOut r f (get_or ws v d) (get_or ts v e)
all_at r f [] ts v d e lt h = let none : ⊥ = omega arith in absurd none
all_at r f (w ∷ ws) [] v d e lt h = absurd h
all_at r f (w ∷ ws) (t ∷ ts) zero d e lt h = h.0
all_at r f (w ∷ ws) (t ∷ ts) (suc v) d e lt h = all_at r f ws ts v d e (omega arith) h.1

free_at : (ws : List Written) (v : ℕ) (d : Written) (k : ℕ) → v < length ws → is_in k (free_of (get_or ws v d)) ≡ true → is_in k (free_in ws) ≡ true
free_at [] v d k lt h = let none : ⊥ = omega arith in absurd none
free_at (w ∷ ws) zero d k lt h = in_left k (free_of w) (free_in ws) h
free_at (w ∷ ws) (suc v) d k lt h = in_right k (free_of w) (free_in ws) (free_at ws v d k (omega arith) h)

abbrev taken : (r : ℕ) → (ℕ → TypeTerm) → ℕ → TypeTerm
taken r τ v = cond (nat_lt v r) (variable_type v) (τ v)

taken_above : (r : ℕ) (τ : ℕ → TypeTerm) (v : ℕ) → r ≤ v → taken r τ v ≡ τ v
taken_above r τ v le = ap (λ b. cond b (variable_type v) (τ v)) (le-ltb v r le)

taken_below : (r : ℕ) (τ : ℕ → TypeTerm) (v : ℕ) → v < r → taken r τ v ≡ variable_type v
taken_below r τ v lt = ap (λ b. cond b (variable_type v) (τ v)) (lt-ltb v r lt)

module _ (r : ℕ) (ws : List Written) (ts : List TypeTerm) (h : AllOut r (number_of r (free_in ws)) ws ts) where
  abbrev f : ℕ → ℕ
  f = number_of r (free_in ws)

  are_general : (σ : ℕ → TypeTerm) → (τ : ℕ → TypeTerm) × ((v : ℕ) (d : Written) → v < length ws → type_written σ (get_or ws v d) ≡ generalised r τ (type_at ts v))
  are_general σ =
      let τ : ℕ → TypeTerm = λ j. σ (get_or (once (free_in ws)) (j - r) 0) in (
        τ,
        (λ v d lt. sym ((all_at r f ws ts v d (variable_type v) lt h).stands σ (taken r τ)
            (λ k i. taken_above r τ (f k) (omega arith) ∙ ap σ (of_number r k (free_in ws) (free_at ws v d k lt i)))
            (λ x below. taken_below r τ x below))),
      )

  are_typed : (τ : ℕ → TypeTerm) → (σ : ℕ → TypeTerm) × ((v : ℕ) (d : Written) → v < length ws → type_written σ (get_or ws v d) ≡ generalised r τ (type_at ts v))
  are_typed τ =
      let σ : ℕ → TypeTerm = λ k. τ (f k) in (
        σ,
        (λ v d lt. sym ((all_at r f ws ts v d (variable_type v) lt h).stands σ (taken r τ)
            (λ k i. taken_above r τ (f k) (omega arith))
            (λ x below. taken_below r τ x below))),
      )

  pub are_plain : ArePlain r ws ts
  are_plain =
      let Q : List ℕ → Type 0 = λ l. once l ≡ from r (length (once l)) in
      record {
        as_many = all_long r f ws ts h;
        numbered = subst Q (sym (all_variables r f ws ts h)) (are_numbered r (free_in ws));
        general = are_general;
        typed = are_typed;
      }

pub plain_whole : (r : ℕ) (ws : List Written) (types : List Ty) (n : Numbers) → OutSoFar r ws (map plain_type types) n → ArePlain r ws (map plain_type types)
plain_whole r ws types n so = are_plain r ws (map plain_type types) so.out

pub plain_kept : (r : ℕ) (flags : List Bool) (ws : List Written) (k : ℕ) (types : List Ty) (n : Numbers) → length ws ≤ k → OutSoFar r (kept flags (take k ws)) (map plain_type types) n → ArePlain r (kept flags ws) (map plain_type types)
plain_kept r flags ws k types n le so =
    let Q : List Written → Type 0 = λ us. OutSoFar r (kept flags us) (map plain_type types) n in
    plain_whole r (kept flags ws) types n (subst Q (take_all k ws le) so)
