-- Included insts have included sets.
use Rattle.std.proofs.Common.{◌≡◌, ◌⊎◌, inl, inr, ℕ, zero, suc, ◌<◌, List, [], ◌∷◌, length, get_or, replicate, Option, Some, None, true, refl, sym, ap, ◌∙◌, subst, arith, ⊎_elim}
use Rattle.std.proofs.lemmas.List.{length-replicate}
use Rattle.mc_program.specs.Values.{Val, int, char, str, con, state, Vals, no_vals, val_then}
use Rattle.mc_program.specs.Programs.{TypeTerm, int_type, char_type, string_type, variable_type, Source}
use Rattle.mc_model.specs.Types.{takes, argument_types, OfType, AllOfTypes}
use Rattle.mc_model.specs.Insts.{Listed, InstNode, free, ground, unique, dead, bound, Graph, Lists, AllowsSymbol, AllowsConstants, Within, AllWithin}
use Rattle.mc_accepted.specs.Inclusion.{Mark, sole, Tip, symbol_tip, constant_tip, state_tip, Path, AllowsMark, OnTypes, Allows, NoMore, IncludedNodes}
use Rattle.mc_accepted.specs.Proper.{Unlisted, ListsOnce, ProperNode, ProperGraph}
use Rattle.laws_language.specs.Proper.{IncludedSets}

-- what holds with the types of a constructor's arguments
pub on_types : (o : Option (List TypeTerm)) (Q R : List TypeTerm → Type 0) → ((ts : List TypeTerm) → Q ts → R ts) → OnTypes o Q → OnTypes o R
on_types None Q R f h = h
on_types (Some ts) Q R f h = f ts h

pub on_either : (o : Option (List TypeTerm)) (Q R S : List TypeTerm → Type 0) → ((ts : List TypeTerm) → Q ts → R ts ⊎ S ts) → OnTypes o Q → OnTypes o R ⊎ OnTypes o S
on_either None Q R S f h = absurd h
on_either (Some ts) Q R S f h = f ts h

pub on_types_to : (o : Option (List TypeTerm)) (Q : List TypeTerm → Type 0) (R : Type 0) → ((ts : List TypeTerm) → Q ts → R) → OnTypes o Q → R
on_types_to None Q R f h = absurd h
on_types_to (Some ts) Q R f h = f ts h

-- a node allows the constructor over these insts
abbrev pub Over : Source → InstNode → ℕ → ℕ → List ℕ → Type 0
Over P N i s is = AllowsSymbol P N i s (λ js. js ≡ is)

pub lists_over : (P : Source) (ls : List Listed) (s : ℕ) (Q : List ℕ → Type 0) → Lists P ls s Q → (is : List ℕ) × Lists P ls s (λ js. js ≡ is) × Q is
lists_over P [] s Q h = absurd h
lists_over P (l ∷ ls) s Q h = ⊎_elim (λ a. (l.args, inl (a.0, a.1, refl), a.2)) (λ b. let r = lists_over P ls s Q b in (r.0, inr r.1, r.2)) h

pub allows_over : (P : Source) (N : InstNode) (i s : ℕ) (Q : List ℕ → Type 0) → AllowsSymbol P N i s Q → (is : List ℕ) × Over P N i s is × Q is
allows_over P free i s Q h = absurd h
allows_over P ground i s Q h = (replicate (P.symbols s).name.arity i, refl, h)
allows_over P unique i s Q h = (replicate (P.symbols s).name.arity i, refl, h)
allows_over P dead i s Q h = (replicate (P.symbols s).name.arity i, refl, h)
allows_over P (bound ls) i s Q h = lists_over P ls s Q h

pub over_lists : (P : Source) (ls : List Listed) (s : ℕ) (Q : List ℕ → Type 0) (is : List ℕ) → Lists P ls s (λ js. js ≡ is) → Q is → Lists P ls s Q
over_lists P [] s Q is h q = h
over_lists P (l ∷ ls) s Q is h q = ⊎_elim (λ a. inl (a.0, a.1, subst Q (sym a.2) q)) (λ b. inr (over_lists P ls s Q is b q)) h

pub over_allows : (P : Source) (N : InstNode) (i s : ℕ) (Q : List ℕ → Type 0) (is : List ℕ) → Over P N i s is → Q is → AllowsSymbol P N i s Q
over_allows P free i s Q is h q = h
over_allows P ground i s Q is h q = subst Q (sym h) q
over_allows P unique i s Q is h q = subst Q (sym h) q
over_allows P dead i s Q is h q = subst Q (sym h) q
over_allows P (bound ls) i s Q is h q = over_lists P ls s Q is h q

-- a proper node allows a constructor over one list of insts alone, which has the constructor's arity
unlisted : (P : Source) (l : Listed) (ls : List Listed) (s : ℕ) (Q : List ℕ → Type 0) → Unlisted l ls → l.name ≡ (P.symbols s).name.bytes → l.arity ≡ (P.symbols s).name.arity → Lists P ls s Q → ⊥
unlisted P l [] s Q u n a h = h
unlisted P l (k ∷ ks) s Q u n a h = ⊎_elim (λ b. u.0 (n ∙ sym b.0) (a ∙ sym b.1)) (λ b. unlisted P l ks s Q u.1 n a b) h

listed_once : (P : Source) (ls : List Listed) (s : ℕ) (is js : List ℕ) → ListsOnce ls → Lists P ls s (λ ks. ks ≡ is) → Lists P ls s (λ ks. ks ≡ js) → is ≡ js
listed_once P [] s is js o h g = absurd h
listed_once P (l ∷ ls) s is js o h g =
    ⊎_elim
    (λ a. ⊎_elim (λ b. sym a.2 ∙ b.2) (λ b. absurd (unlisted P l ls s (λ ks. ks ≡ js) o.1 a.0 a.1 b)) g)
    (λ a. ⊎_elim (λ b. absurd (unlisted P l ls s (λ ks. ks ≡ is) o.1 b.0 b.1 a)) (λ b. listed_once P ls s is js o.2 a b) g)
    h

pub over_one : (P : Source) (N : InstNode) (i s : ℕ) (is js : List ℕ) → ProperNode N → Over P N i s is → Over P N i s js → is ≡ js
over_one P free i s is js p h g = absurd h
over_one P ground i s is js p h g = sym h ∙ g
over_one P unique i s is js p h g = sym h ∙ g
over_one P dead i s is js p h g = sym h ∙ g
over_one P (bound ls) i s is js p h g = listed_once P ls s is js p h g

listed_length : (P : Source) (ls : List Listed) (s : ℕ) (is : List ℕ) → ListsOnce ls → Lists P ls s (λ ks. ks ≡ is) → length is ≡ (P.symbols s).name.arity
listed_length P [] s is o h = absurd h
listed_length P (l ∷ ls) s is o h = ⊎_elim (λ a. ap length (sym a.2) ∙ o.0 ∙ a.1) (λ b. listed_length P ls s is o.2 b) h

pub over_length : (P : Source) (N : InstNode) (i s : ℕ) (is : List ℕ) → ProperNode N → Over P N i s is → length is ≡ (P.symbols s).name.arity
over_length P free i s is p h = absurd h
over_length P ground i s is p h = ap length (sym h) ∙ length-replicate (P.symbols s).name.arity i
over_length P unique i s is p h = ap length (sym h) ∙ length-replicate (P.symbols s).name.arity i
over_length P dead i s is p h = ap length (sym h) ∙ length-replicate (P.symbols s).name.arity i
over_length P (bound ls) i s is p h = listed_length P ls s is p h

-- a node that allows a constant allows a state with some mark, and the other way round
some_mark : (N : InstNode) → AllowsConstants N → (m : Mark) × AllowsMark N m
some_mark free h = absurd h
some_mark ground h = (sole, tt)
some_mark unique h = (sole, tt)
some_mark dead h = (sole, tt)
some_mark (bound ls) h = absurd h

marked_allows : (N : InstNode) (m : Mark) → AllowsMark N m → AllowsConstants N
marked_allows free m h = h
marked_allows ground m h = tt
marked_allows unique m h = tt
marked_allows dead m h = tt
marked_allows (bound ls) m h = h

pub no_types : (P : Source) (vs : Vals) → AllOfTypes P vs None → ⊥
no_types P no_vals h = h
no_types P (val_then v vs) h = h

module _ (P : Source) (G : Graph) (proper : ProperGraph G) where
  -- what holds of an inst holds of each argument
  module _ (i j s : ℕ) (t : TypeTerm) (is js : List ℕ) (ts : List TypeTerm) (types : argument_types P s t ≡ Some ts) (over : Over P (G i) i s is) (under : Over P (G j) j s js) where
    pub goes_down : (k : ℕ) (path : Path) (e : Tip) → k < length is → Allows P G path e (get_or is k 0) (get_or ts k (variable_type 0)) → Allows P G ((s, k) ∷ path) e i t
    goes_down k path e lt a =
        subst
        (λ o. OnTypes o (λ us. AllowsSymbol P (G i) i s (λ ks. (k < length ks) × Allows P G path e (get_or ks k 0) (get_or us k (variable_type 0)))))
        (sym types)
        (over_allows P (G i) i s (λ ks. (k < length ks) × Allows P G path e (get_or ks k 0) (get_or ts k (variable_type 0))) is over (lt, a))

    pub comes_up : (k : ℕ) (path : Path) (e : Tip) → Allows P G ((s, k) ∷ path) e j t → Allows P G path e (get_or js k 0) (get_or ts k (variable_type 0))
    comes_up k path e a =
        let h =
        subst
        (λ o. OnTypes o (λ us. AllowsSymbol P (G j) j s (λ ks. (k < length ks) × Allows P G path e (get_or ks k 0) (get_or us k (variable_type 0)))))
        types a in
        let r = allows_over P (G j) j s (λ ks. (k < length ks) × Allows P G path e (get_or ks k 0) (get_or ts k (variable_type 0))) h in
        subst (λ ks. Allows P G path e (get_or ks k 0) (get_or ts k (variable_type 0))) (over_one P (G j) j s r.0 js (proper j) r.1 under) r.2.1

    arguments_no_more : NoMore P G i j t → (k : ℕ) → k < length is → NoMore P G (get_or is k 0) (get_or js k 0) (get_or ts k (variable_type 0))
    arguments_no_more more k lt path e a = comes_up k path e (more ((s, k) ∷ path) e (goes_down k path e lt a))

  constants_more : (i j : ℕ) (b t : TypeTerm) → NoMore P G i j t → takes b t ≡ true → AllowsConstants (G i) → AllowsConstants (G j)
  constants_more i j b t more is h = (more [] (constant_tip b) (is, h)).1

  abbrev EachMore : Vals → Type 0
  EachMore vs =
      (is js : List ℕ) (ts : List TypeTerm) → ((k : ℕ) → k < length is → NoMore P G (get_or is k 0) (get_or js k 0) (get_or ts k (variable_type 0))) →
      AllOfTypes P vs (Some ts) → AllWithin P G vs is → length js ≡ length is → AllWithin P G vs js

  con_more : (s : ℕ) (vs : Vals) (i j : ℕ) (t : TypeTerm) → NoMore P G i j t → (a : Option (List TypeTerm)) → argument_types P s t ≡ a → AllOfTypes P vs a → AllowsSymbol P (G i) i s (AllWithin P G vs) → EachMore vs → AllowsSymbol P (G j) j s (AllWithin P G vs)
  con_more s vs i j t more None types o w each = absurd (no_types P vs o)
  con_more s vs i j t more (Some ts) types o w each =
      let r = allows_over P (G i) i s (AllWithin P G vs) w in
      let tip = subst (λ a. OnTypes a (λ us. AllowsSymbol P (G i) i s (λ ks. Unit {0}))) (sym types) (over_allows P (G i) i s (λ ks. Unit {0}) r.0 r.1 tt) in
      let there = subst (λ a. OnTypes a (λ us. AllowsSymbol P (G j) j s (λ ks. Unit {0}))) types (more [] (symbol_tip s) tip) in
      let q = allows_over P (G j) j s (λ ks. Unit {0}) there in
      let lengths = over_length P (G j) j s q.0 (proper j) q.1 ∙ sym (over_length P (G i) i s r.0 (proper i) r.1) in
      over_allows P (G j) j s (AllWithin P G vs) q.0 q.1
      (each r.0 q.0 ts (arguments_no_more i j s t r.0 q.0 ts types r.1 q.1 more) o r.2 lengths)

  mutual
    pub within_more : (v : Val) (i j : ℕ) (t : TypeTerm) → NoMore P G i j t → OfType P v t → Within P G v i → Within P G v j
    within_more (int n) i j t more o w = constants_more i j int_type t more o.1 w
    within_more (char c) i j t more o w = constants_more i j char_type t more o.1 w
    within_more (str bytes) i j t more o w = constants_more i j string_type t more o.1 w
    within_more (state written taken) i j t more o w =
        let m = some_mark (G i) w in
        marked_allows (G j) m.0 (more [] (state_tip m.0) (o.1, m.1)).1
    within_more (con s vs) i j t more o w = con_more s vs i j t more (argument_types P s t) refl o w (all_within_more vs)

    all_within_more : (vs : Vals) → EachMore vs
    all_within_more no_vals [] [] [] more o w e = tt
    all_within_more no_vals [] (j ∷ js) [] more o w e = absurd (omega arith)
    all_within_more no_vals [] js (t ∷ ts) more o w e = absurd o
    all_within_more no_vals (i ∷ is) js ts more o w e = absurd w
    all_within_more (val_then v vs) [] js ts more o w e = absurd w
    all_within_more (val_then v vs) (i ∷ is) js [] more o w e = absurd o
    all_within_more (val_then v vs) (i ∷ is) [] (t ∷ ts) more o w e = absurd (omega arith)
    all_within_more (val_then v vs) (i ∷ is) (j ∷ js) (t ∷ ts) more o w e = (
      within_more v i j t (more 0 (omega arith)) o.0 w.0,
      all_within_more vs is js ts (λ k lt. more (suc k) (omega arith)) o.1 w.1 (omega arith),
    )

  -- `dead` has every value of every inst, and `free` none
  mutual
    pub within_dead : (v : Val) (i j : ℕ) → G j ≡ dead → Within P G v i → Within P G v j
    within_dead (int n) i j e w = subst AllowsConstants (sym e) tt
    within_dead (char c) i j e w = subst AllowsConstants (sym e) tt
    within_dead (str bytes) i j e w = subst AllowsConstants (sym e) tt
    within_dead (state written taken) i j e w = subst AllowsConstants (sym e) tt
    within_dead (con s vs) i j e w =
        let r = allows_over P (G i) i s (AllWithin P G vs) w in
        subst (λ N. AllowsSymbol P N j s (AllWithin P G vs)) (sym e) (all_within_dead vs r.0 j (P.symbols s).name.arity e (over_length P (G i) i s r.0 (proper i) r.1) r.2)

    all_within_dead : (vs : Vals) (is : List ℕ) (j n : ℕ) → G j ≡ dead → length is ≡ n → AllWithin P G vs is → AllWithin P G vs (replicate n j)
    all_within_dead no_vals [] j zero e l w = tt
    all_within_dead no_vals [] j (suc n) e l w = absurd (omega arith)
    all_within_dead no_vals (i ∷ is) j n e l w = absurd w
    all_within_dead (val_then v vs) [] j n e l w = absurd w
    all_within_dead (val_then v vs) (i ∷ is) j zero e l w = absurd (omega arith)
    all_within_dead (val_then v vs) (i ∷ is) j (suc n) e l w = (within_dead v i j e w.0, all_within_dead vs is j n e (omega arith) w.1)

  none_free : (v : Val) (i : ℕ) → G i ≡ free → Within P G v i → ⊥
  none_free (int n) i e w = subst AllowsConstants e w
  none_free (char c) i e w = subst AllowsConstants e w
  none_free (str bytes) i e w = subst AllowsConstants e w
  none_free (state written taken) i e w = subst AllowsConstants e w
  none_free (con s vs) i e w = subst (λ N. AllowsSymbol P N i s (AllWithin P G vs)) e w

  by_nodes : (i j : ℕ) (t : TypeTerm) (v : Val) → OfType P v t → Within P G v i → (N M : InstNode) → G i ≡ N → G j ≡ M → IncludedNodes N M (NoMore P G i j t) → Within P G v j
  by_nodes i j t v o w free M n m h = absurd (none_free v i n w)
  by_nodes i j t v o w dead free n m h = absurd h
  by_nodes i j t v o w dead ground n m h = absurd h
  by_nodes i j t v o w dead unique n m h = absurd h
  by_nodes i j t v o w dead dead n m h = within_dead v i j m w
  by_nodes i j t v o w dead (bound ks) n m h = absurd h
  by_nodes i j t v o w ground free n m h = absurd h
  by_nodes i j t v o w ground ground n m h = within_more v i j t h o w
  by_nodes i j t v o w ground unique n m h = within_more v i j t h o w
  by_nodes i j t v o w ground dead n m h = within_dead v i j m w
  by_nodes i j t v o w ground (bound ks) n m h = within_more v i j t h o w
  by_nodes i j t v o w unique free n m h = absurd h
  by_nodes i j t v o w unique ground n m h = within_more v i j t h o w
  by_nodes i j t v o w unique unique n m h = within_more v i j t h o w
  by_nodes i j t v o w unique dead n m h = within_dead v i j m w
  by_nodes i j t v o w unique (bound ks) n m h = within_more v i j t h o w
  by_nodes i j t v o w (bound ls) free n m h = absurd h
  by_nodes i j t v o w (bound ls) ground n m h = within_more v i j t h o w
  by_nodes i j t v o w (bound ls) unique n m h = within_more v i j t h o w
  by_nodes i j t v o w (bound ls) dead n m h = within_dead v i j m w
  by_nodes i j t v o w (bound ls) (bound ks) n m h = within_more v i j t h o w

pub included_sets : IncludedSets
included_sets P G proper i j t h v o w = by_nodes P G proper i j t v o w (G i) (G j) refl refl h
