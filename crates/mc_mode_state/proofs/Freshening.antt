-- A builtin's arguments, place by place: fresh variables, sides, and tests.
use Rattle.std.proofs.Common.{◌≡◌, ℕ, zero, suc, ◌<◌, ◌≤◌, ◌+◌, Bool, true, false, List, [], ◌∷◌, ◌++◌, length, get_or, take, drop, map, if◌then◌else◌, refl, sym, ap, ap₂, ◌∙◌, arith, append_assoc, length-append}
use Rattle.std.proofs.lemmas.List.{length-take}
use Rattle.mc_program.specs.Programs.{TypeTerm}
use Rattle.mc_program.specs.declared.ty.Ty.{Ty}
use Rattle.mc_program.specs.declared.builtin.Builtin.{Builtin}
use Rattle.mc_program.specs.declared.builtin.Builtin.TheVariants as B
use Rattle.mc_model.specs.Lists.{is_in}
use Rattle.mc_model.specs.Outcomes.{inputs_of}
use Rattle.mc_model.specs.Scheduled.{nodes, node_then}
use Rattle.mc_model.specs.Stream.{is_bound}
use Rattle.mc_accepted.specs.Arranged.{fresh_at, tests_at, test_nodes}
use Rattle.mc_accepted.specs.FreshTests.{AllAlike}
use Rattle.mc_accepted.specs.Ordered.{Mode, modes_of, zipped}
use Rattle.mc_procs.specs.Named.{NumbersBelow}
use Rattle.mc_mode_state.specs.Agreeing.{TypedAs}
use Rattle.mc_mode_state.specs.Nodes.{type_in}
use Rattle.mc_mode_state.specs.code.Applying.{at_sides, test_of, AlikeIn}
use Rattle.mc_mode_state.specs.declared.state.State.{State}
use Rattle.mc_mode_state.proofs.Found.{type-kept}
use Rattle.mc_mode_state.proofs.Numbers.{cons_at}

pub numbers-pushed : (n m : ℕ) (xs : List ℕ) (x : ℕ) → n ≤ m → NumbersBelow n xs → x < m → NumbersBelow m (xs ++ x ∷ [])
numbers-pushed n m [] x h w l = (l, tt)
numbers-pushed n m (y ∷ xs) x h w l = (let a = w.0 in omega arith, numbers-pushed n m xs x h w.1 l)

-- one argument further
pub fresh-on : (is xs args : List ℕ) (k n : ℕ) → k < length xs
    → args ++ fresh_at k is (drop k xs) n
    ≡ (args ++ (if is_in k is then n else get_or xs k 0) ∷ []) ++ fresh_at (k + 1) is (drop (k + 1) xs) (if is_in k is then n + 1 else n)
fresh-on is xs args k n h =
    ap (λ (ys : List ℕ). args ++ fresh_at k is ys n) (cons_at xs k 0 h) ∙ chosen (is_in k is)
  where
    next : suc k ≡ k + 1
    next = omega arith

    more : suc n ≡ n + 1
    more = omega arith

    chosen : (t : Bool)
        → args ++ (if t then n ∷ fresh_at (suc k) is (drop (k + 1) xs) (suc n) else get_or xs k 0 ∷ fresh_at (suc k) is (drop (k + 1) xs) n)
        ≡ (args ++ (if t then n else get_or xs k 0) ∷ []) ++ fresh_at (k + 1) is (drop (k + 1) xs) (if t then n + 1 else n)
    chosen true =
        ap₂ (λ (j m : ℕ). args ++ n ∷ fresh_at j is (drop (k + 1) xs) m) next more
        ∙ sym (append_assoc args (n ∷ []) (fresh_at (k + 1) is (drop (k + 1) xs) (n + 1)))
    chosen false =
        ap (λ (j : ℕ). args ++ get_or xs k 0 ∷ fresh_at j is (drop (k + 1) xs) n) next
        ∙ sym (append_assoc args (get_or xs k 0 ∷ []) (fresh_at (k + 1) is (drop (k + 1) xs) n))

pub tests-on : (is xs : List ℕ) (tests : List (ℕ × ℕ)) (k n : ℕ) → k < length xs
    → tests ++ tests_at k is (drop k xs) n
    ≡ (if is_in k is then tests ++ (n, get_or xs k 0) ∷ [] else tests) ++ tests_at (k + 1) is (drop (k + 1) xs) (if is_in k is then n + 1 else n)
tests-on is xs tests k n h =
    ap (λ (ys : List ℕ). tests ++ tests_at k is ys n) (cons_at xs k 0 h) ∙ chosen (is_in k is)
  where
    next : suc k ≡ k + 1
    next = omega arith

    more : suc n ≡ n + 1
    more = omega arith

    chosen : (t : Bool)
        → tests ++ (if t then (n, get_or xs k 0) ∷ tests_at (suc k) is (drop (k + 1) xs) (suc n) else tests_at (suc k) is (drop (k + 1) xs) n)
        ≡ (if t then tests ++ (n, get_or xs k 0) ∷ [] else tests) ++ tests_at (k + 1) is (drop (k + 1) xs) (if t then n + 1 else n)
    chosen true =
        ap₂ (λ (j m : ℕ). tests ++ (n, get_or xs k 0) ∷ tests_at j is (drop (k + 1) xs) m) next more
        ∙ sym (append_assoc tests ((n, get_or xs k 0) ∷ []) (tests_at (k + 1) is (drop (k + 1) xs) (n + 1)))
    chosen false = ap (λ (j : ℕ). tests ++ tests_at j is (drop (k + 1) xs) n) next

-- the arguments on a side of a mode
abbrev pub sides_of : Bool → List ℕ → List ℕ → List ℕ
sides_of t fs xs = at_sides t (map is_bound fs) xs

-- the sides of a builtin's arguments are those of its mode
bound-firsts : (op : Builtin) → map (λ (m : Mode). is_bound m.0) (modes_of op) ≡ inputs_of op
bound-firsts B.IntPlus = refl
bound-firsts B.IntMinus = refl
bound-firsts B.IntTimes = refl
bound-firsts B.IntQuotient = refl
bound-firsts B.IntDiv = refl
bound-firsts B.IntMod = refl
bound-firsts B.IntRem = refl
bound-firsts B.IntNegate = refl
bound-firsts B.IntLess = refl
bound-firsts B.IntGreater = refl
bound-firsts B.IntAtMost = refl
bound-firsts B.IntAtLeast = refl
bound-firsts B.StringJoin = refl
bound-firsts B.StringLength = refl
bound-firsts B.StringCodePoints = refl
bound-firsts B.IntToString = refl
bound-firsts B.CharToString = refl
bound-firsts B.ToCharList = refl
bound-firsts B.StringToInt = refl
bound-firsts B.CharToInt = refl
bound-firsts B.CharFromInt = refl
bound-firsts B.CharIsDigit = refl
bound-firsts B.WriteString = refl
bound-firsts B.WriteChar = refl
bound-firsts B.WriteInt = refl
bound-firsts B.Write = refl
bound-firsts B.Nl = refl
bound-firsts B.ReadLine = refl
bound-firsts B.Error = refl

zipped-bound : (fs ls : List ℕ) → length fs ≡ length ls → map (λ (m : Mode). is_bound m.0) (zipped fs ls) ≡ map is_bound fs
zipped-bound [] ls e = refl
zipped-bound (i ∷ fs) [] e = absurd (omega (arith, e))
zipped-bound (i ∷ fs) (l ∷ ls) e = ap (λ bs. is_bound i ∷ bs) (zipped-bound fs ls (omega (arith, e)))

pub mode-bound : (op : Builtin) (fs ls : List ℕ) → zipped fs ls ≡ modes_of op → length fs ≡ length ls → map is_bound fs ≡ inputs_of op
mode-bound op fs ls e n = sym (zipped-bound fs ls n) ∙ (ap (map (λ (m : Mode). is_bound m.0)) e ∙ bound-firsts op)

pub tests-are : (ts : List (ℕ × ℕ)) → nodes (map test_of ts) ≡ test_nodes ts
tests-are [] = refl
tests-are (t ∷ ts) = ap (node_then (test_of t)) (tests-are ts)

-- fresh variables are typed as those for which they stand
pub tests-alike : (us : List Ty) (t : State) (T : ℕ → TypeTerm) (next : ℕ) (ts : List (ℕ × ℕ)) → take (length us) t.types.items ≡ us → TypedAs t T → AlikeIn us ts → AllAlike T next (test_nodes ts)
tests-alike us t T next [] e h w = tt
tests-alike us t T next (z ∷ ts) e h w = ((λ le. typed z.0 w.0 ∙ (w.2 ∙ sym (typed z.1 w.1))), tests-alike us t T next ts e h w.3)
  where
    typed : (x : ℕ) → x < length us → T x ≡ type_in us x
    typed x l = h x (omega (arith, l, length-take (length us) t.types.items, ap length e)) ∙ type-kept us t.types.items x e l

pub counted-on : (d : Bool) (n m : ℕ) → m ≡ (if d then n + 1 else n) → n ≤ m
counted-on true n m e = omega (arith, e)
counted-on false n m e = omega (arith, e)

pub tests-counted : (d : Bool) (n m o : ℕ) (old new : List (ℕ × ℕ)) (t : ℕ × ℕ) → m ≡ (if d then n + 1 else n) → new ≡ (if d then old ++ t ∷ [] else old) → n ≡ o + length old → m ≡ o + length new
tests-counted true n m o old new t e f g = omega (arith, e, g, ap length f, length-append old (t ∷ []))
tests-counted false n m o old new t e f g = omega (arith, e, g, ap length f)

pub take-past : (ts : List (ℕ × ℕ)) (k : ℕ) → length ts ≤ k → take k ts ≡ ts
take-past [] zero h = refl
take-past [] (suc k) h = refl
take-past (t ∷ ts) zero h = absurd (omega arith)
take-past (t ∷ ts) (suc k) h = ap (λ us. t ∷ us) (take-past ts k (omega arith))

pub there-on : (d : Bool) (n m x z : ℕ) → z ≡ (if d then n else x) → m ≡ (if d then n + 1 else n) → x < n → z < m
there-on true n m x z e f h = omega (arith, e, f)
there-on false n m x z e f h = omega (arith, e, f)
