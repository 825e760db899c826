-- Constructors over the insts of their arguments, in any graph.
use Rattle.std.proofs.Common.{◌≡◌, inl, inr, ℕ, ◌<◌, ◌≤◌, List, [], ◌∷◌, length, get_or, replicate, Option, Some, None, refl, sym, ap, ◌∙◌, subst, arith, ⊎_elim}
use Rattle.std.proofs.lemmas.List.{length-replicate}
use Rattle.mc_program.specs.Programs.{TypeTerm, variable_type, Source}
use Rattle.mc_model.specs.Types.{argument_types}
use Rattle.mc_model.specs.Insts.{Listed, InstNode, free, ground, unique, dead, bound, Graph, Lists, AllowsSymbol, AllowsConstants}
use Rattle.mc_accepted.specs.Inclusion.{Mark, sole, shared, gone, Tip, symbol_tip, constant_tip, state_tip, Path, AllowsMark, OnTypes, Allows}
use Rattle.mc_accepted.specs.Proper.{Unlisted, ListsOnce, ProperNode}
use Rattle.mc_insts.proofs.Bridge.{get_replicate, level}

pub on_types : (o : Option (List TypeTerm)) (Q R : List TypeTerm → Type 0) → ((ts : List TypeTerm) → Q ts → R ts) → OnTypes o Q → OnTypes o R
on_types None Q R f h = h
on_types (Some ts) Q R f h = f ts h

-- a node allows the constructor over these insts
abbrev pub Over : Source → InstNode → ℕ → ℕ → List ℕ → Type 0
Over P N i s is = AllowsSymbol P N i s (λ js. js ≡ is)

lists_over : (P : Source) (ls : List Listed) (s : ℕ) (Q : List ℕ → Type 0) → Lists P ls s Q → (is : List ℕ) × Lists P ls s (λ js. js ≡ is) × Q is
lists_over P [] s Q h = absurd h
lists_over P (l ∷ ls) s Q h = ⊎_elim (λ a. (l.args, inl (a.0, a.1, refl), a.2)) (λ b. let r = lists_over P ls s Q b in (r.0, inr r.1, r.2)) h

pub allows_over : (P : Source) (N : InstNode) (i s : ℕ) (Q : List ℕ → Type 0) → AllowsSymbol P N i s Q → (is : List ℕ) × Over P N i s is × Q is
allows_over P free i s Q h = absurd h
allows_over P ground i s Q h = (replicate (P.symbols s).name.arity i, refl, h)
allows_over P unique i s Q h = (replicate (P.symbols s).name.arity i, refl, h)
allows_over P dead i s Q h = (replicate (P.symbols s).name.arity i, refl, h)
allows_over P (bound ls) i s Q h = lists_over P ls s Q h

over_lists : (P : Source) (ls : List Listed) (s : ℕ) (Q : List ℕ → Type 0) (is : List ℕ) → Lists P ls s (λ js. js ≡ is) → Q is → Lists P ls s Q
over_lists P [] s Q is h q = h
over_lists P (l ∷ ls) s Q is h q = ⊎_elim (λ a. inl (a.0, a.1, subst Q (sym a.2) q)) (λ b. inr (over_lists P ls s Q is b q)) h

pub over_allows : (P : Source) (N : InstNode) (i s : ℕ) (Q : List ℕ → Type 0) (is : List ℕ) → Over P N i s is → Q is → AllowsSymbol P N i s Q
over_allows P free i s Q is h q = h
over_allows P ground i s Q is h q = subst Q (sym h) q
over_allows P unique i s Q is h q = subst Q (sym h) q
over_allows P dead i s Q is h q = subst Q (sym h) q
over_allows P (bound ls) i s Q is h q = over_lists P ls s Q is h q

-- a proper node allows a constructor over one list of insts alone, as many as its arguments
unlisted : (P : Source) (l : Listed) (ls : List Listed) (s : ℕ) (Q : List ℕ → Type 0) → Unlisted l ls → l.name ≡ (P.symbols s).name.bytes → l.arity ≡ (P.symbols s).name.arity → Lists P ls s Q → ⊥
unlisted P l [] s Q u n a h = h
unlisted P l (k ∷ ks) s Q u n a h = ⊎_elim (λ b. u.0 (n ∙ sym b.0) (a ∙ sym b.1)) (λ b. unlisted P l ks s Q u.1 n a b) h

listed_once : (P : Source) (ls : List Listed) (s : ℕ) (is : List ℕ) (Q : List ℕ → Type 0) → ListsOnce ls → Lists P ls s (λ ks. ks ≡ is) → Lists P ls s Q → Q is
listed_once P [] s is Q o h g = absurd h
listed_once P (l ∷ ls) s is Q o h g =
    ⊎_elim
    (λ a. ⊎_elim (λ b. subst Q a.2 b.2) (λ b. absurd (unlisted P l ls s Q o.1 a.0 a.1 b)) g)
    (λ a. ⊎_elim (λ b. absurd (unlisted P l ls s (λ ks. ks ≡ is) o.1 b.0 b.1 a)) (λ b. listed_once P ls s is Q o.2 a b) g)
    h

pub over_once : (P : Source) (N : InstNode) (i s : ℕ) (is : List ℕ) (Q : List ℕ → Type 0) → ProperNode N → Over P N i s is → AllowsSymbol P N i s Q → Q is
over_once P free i s is Q p h g = absurd h
over_once P ground i s is Q p h g = subst Q h g
over_once P unique i s is Q p h g = subst Q h g
over_once P dead i s is Q p h g = subst Q h g
over_once P (bound ls) i s is Q p h g = listed_once P ls s is Q p h g

listed_length : (P : Source) (ls : List Listed) (s : ℕ) (is : List ℕ) → ListsOnce ls → Lists P ls s (λ ks. ks ≡ is) → length is ≡ (P.symbols s).name.arity
listed_length P [] s is o h = absurd h
listed_length P (l ∷ ls) s is o h = ⊎_elim (λ a. ap length (sym a.2) ∙ o.0 ∙ a.1) (λ b. listed_length P ls s is o.2 b) h

pub over_length : (P : Source) (N : InstNode) (i s : ℕ) (is : List ℕ) → ProperNode N → Over P N i s is → length is ≡ (P.symbols s).name.arity
over_length P free i s is p h = absurd h
over_length P ground i s is p h = ap length (sym h) ∙ length-replicate (P.symbols s).name.arity i
over_length P unique i s is p h = ap length (sym h) ∙ length-replicate (P.symbols s).name.arity i
over_length P dead i s is p h = ap length (sym h) ∙ length-replicate (P.symbols s).name.arity i
over_length P (bound ls) i s is p h = listed_length P ls s is p h

-- builtin insts in the order of the states that they allow
abbrev pub rank : InstNode → ℕ
rank free = 0
rank ground = 2
rank unique = 1
rank dead = 3
rank (bound ls) = 0

pub rank_of : (N : InstNode) (m : Mark) → AllowsMark N m → level m ≤ rank N
rank_of free m h = absurd h
rank_of ground sole h = omega arith
rank_of ground shared h = omega arith
rank_of ground gone h = absurd h
rank_of unique sole h = omega arith
rank_of unique shared h = absurd h
rank_of unique gone h = absurd h
rank_of dead sole h = omega arith
rank_of dead shared h = omega arith
rank_of dead gone h = omega arith
rank_of (bound ls) m h = absurd h

pub rank_to : (N : InstNode) (m : Mark) → level m ≤ rank N → AllowsMark N m
rank_to free sole h = absurd (omega arith)
rank_to free shared h = absurd (omega arith)
rank_to free gone h = absurd (omega arith)
rank_to ground sole h = tt
rank_to ground shared h = tt
rank_to ground gone h = absurd (omega arith)
rank_to unique sole h = tt
rank_to unique shared h = absurd (omega arith)
rank_to unique gone h = absurd (omega arith)
rank_to dead m h = tt
rank_to (bound ls) sole h = absurd (omega arith)
rank_to (bound ls) shared h = absurd (omega arith)
rank_to (bound ls) gone h = absurd (omega arith)

pub rank_dead : (N : InstNode) → 3 ≤ rank N → N ≡ dead
rank_dead free h = absurd (omega arith)
rank_dead ground h = absurd (omega arith)
rank_dead unique h = absurd (omega arith)
rank_dead dead h = refl
rank_dead (bound ls) h = absurd (omega arith)

builtin_constants : (N : InstNode) → 1 ≤ rank N → AllowsConstants N
builtin_constants free h = absurd (omega arith)
builtin_constants ground h = tt
builtin_constants unique h = tt
builtin_constants dead h = tt
builtin_constants (bound ls) h = absurd (omega arith)

symbol_of : (P : Source) (N : InstNode) (i s : ℕ) (Q : List ℕ → Type 0) → 1 ≤ rank N → AllowsSymbol P N i s Q → Q (replicate (P.symbols s).name.arity i)
symbol_of P free i s Q r h = absurd h
symbol_of P ground i s Q r h = h
symbol_of P unique i s Q r h = h
symbol_of P dead i s Q r h = h
symbol_of P (bound ls) i s Q r h = absurd (omega arith)

symbol_to : (P : Source) (N : InstNode) (i s : ℕ) (Q : List ℕ → Type 0) → 1 ≤ rank N → Q (replicate (P.symbols s).name.arity i) → AllowsSymbol P N i s Q
symbol_to P free i s Q r h = absurd (omega arith)
symbol_to P ground i s Q r h = h
symbol_to P unique i s Q r h = h
symbol_to P dead i s Q r h = h
symbol_to P (bound ls) i s Q r h = absurd (omega arith)

-- a builtin inst allows no more than one that allows as many states, in any graph
pub builtin_more : (P : Source) (G H : Graph) (i h : ℕ) → 1 ≤ rank (G i) → rank (G i) ≤ rank (H h) → (path : Path) (e : Tip) (t : TypeTerm) → Allows P G path e i t → Allows P H path e h t
builtin_more P G H i h p le [] (symbol_tip s) t a =
    on_types (argument_types P s t) (λ ts. AllowsSymbol P (G i) i s (λ is. Unit {0})) (λ ts. AllowsSymbol P (H h) h s (λ is. Unit {0}))
    (λ ts b. symbol_to P (H h) h s (λ is. Unit {0}) (omega arith) tt) a
builtin_more P G H i h p le [] (constant_tip b) t a = (a.0, builtin_constants (H h) (omega arith))
builtin_more P G H i h p le [] (state_tip m) t a = (a.0, rank_to (H h) m (let x = rank_of (G i) m a.1 in omega arith))
builtin_more P G H i h p le ((s, k) ∷ path) e t a =
    on_types (argument_types P s t) _ _
    (λ ts b.
    let n = (P.symbols s).name.arity in
    let x = symbol_of P (G i) i s (λ is. (k < length is) × Allows P G path e (get_or is k 0) (get_or ts k (variable_type 0))) p b in
    let l : length (replicate {A = ℕ} n i) ≡ n = length-replicate n i in
    let m : length (replicate {A = ℕ} n h) ≡ n = length-replicate n h in
    let lt : k < n = let y = x.0 in omega arith in
    symbol_to P (H h) h s (λ is. (k < length is) × Allows P H path e (get_or is k 0) (get_or ts k (variable_type 0))) (omega arith) (
      omega arith,
      subst (λ j. Allows P H path e j (get_or ts k (variable_type 0))) (sym (get_replicate n h k lt))
          (builtin_more P G H i h p le path e (get_or ts k (variable_type 0)) (subst (λ j. Allows P G path e j (get_or ts k (variable_type 0))) (get_replicate n i k lt) x.1)),
    ))
    a
