-- What the premises turn away.
use Rattle.std.proofs.Common.{◌≡◌, inl, arith, ℕ, List, [], ◌∷◌, Option, Some, None, Bool, true, false, cond, nat_eq, refl, sym, ap, ◌∙◌, subst}
use Rattle.std.specs.Int.{int_wrap}
use Rattle.mc_program.specs.Values.{Val, state}
use Rattle.mc_program.specs.Programs.{TypeTerm, int_type}
use Rattle.mc_model.specs.Insts.{ground, unique}
use Rattle.mc_model.specs.Flat as F
use Rattle.mc_model.specs.Flat.{Flat_goal, Flat_goals, no_flat, flat_then}
use Rattle.mc_model.specs.Scheduled.{Node, node, Scheduled, Nodes}
use Rattle.mc_model.specs.Outcomes.{fails, gives, inputs_of}
use Rattle.mc_model.specs.Good.{System, TypeChoice, GoodProcedures}
use Rattle.mc_accepted.specs.Ordered as O
use Rattle.mc_accepted.specs.Ordered.{Insts, Picks, here, there, Ordered, OrderedNode, OrderedAll, is_pruned, unless_never}
use Rattle.mc_accepted.specs.BuiltinFits.{at_places, EachOf, FitsBuiltins}
use Rattle.mc_accepted.specs.BuiltinTypes.{Library_types}
use Rattle.mc_accepted.specs.IoFits.{FitsIo}
use Rattle.mc_accepted.specs.Fits.{type_of}
use Rattle.mc_accepted.specs.Accepted.{entered}
use Rattle.mc_program.specs.declared.builtin.Builtin.{Builtin}
use Rattle.mc_program.specs.declared.builtin.Builtin.TheVariants as B
use Rattle.laws_sound.specs.code.Examples.{semidet, sums}
use Rattle.laws_sound.specs.code.MainExamples.{main_pred, line_pred, line_source}
use Rattle.laws_sound.specs.code.Premises.{turned, silent, silent_lines, InstsAreAsked, SymbolsAreAsked, BuiltinsAreAsked, DeterminismsAreAsked, SumsFail, MarksAreAsked, ArmsAreAsked, IoIsAsked}
use Rattle.laws_sound.proofs.MainExample as M
use Rattle.laws_sound.proofs.SumsExample.{insts_fit, has_builtins, accepted}

pub insts_asked : InstsAreAsked
insts_asked = (insts_fit, (λ f. no f.is_unique))
  where
    no : ground ≡ unique → ⊥
    no e = cc

pub symbols_asked : SymbolsAreAsked
symbols_asked = (record { nil = λ h. refl; cons = λ h. refl; ok = λ h. refl; eof = λ h. refl }, (λ h. no _ (h.cons (9, refl))))
  where
    no : (ts : List TypeTerm) → None ≡ Some ts → ⊥
    no ts e = cc

pub builtins_asked : BuiltinsAreAsked
builtins_asked = (has_builtins, (λ h. no (ap (λ n. n.bytes) (h 9 B.IntMinus refl).0)))
  where
    no : ◌≡◌ {A = List ℕ} (43 ∷ []) (45 ∷ []) → ⊥
    no e = cc

pub determinisms_asked : DeterminismsAreAsked
determinisms_asked = (accepted, (λ r. no (ap (λ d. d.can_fail) r.kept.1.1.0.0)), (λ r. no (r.allowed.0 refl)))
  where
    no : false ≡ true → ⊥
    no e = cc

pub sums_fail : SumsFail
unfolding int_wrap
sums_fail = refl

pub arms_asked : ArmsAreAsked
arms_asked = ((tt, inl (refl, refl)), (λ o. o.0))

-- the mark of a goal
abbrev mark_of : Node → Bool
mark_of (node s changes d is_pruned) = is_pruned

kept_mark : {S : System} {T : ℕ → TypeTerm} {O Q : List ℕ} {b : Insts} {g : Flat_goal} {n : Node} {o : Option Insts} → OrderedNode S T O Q b g n o → mark_of n ≡ is_pruned Q b o
kept_mark (O.kept r k) = refl

some_none : {A : Type 0} (a : A) → Some a ≡ None → ⊥
some_none a e = cc

abbrev predicate_of : Flat_goal → ℕ
predicate_of (F.Call p xs) = p
predicate_of g = 0

pick_none : {gs rest : Flat_goals} {g : Flat_goal} → Picks gs g rest → gs ≡ no_flat → ⊥
pick_none (here {g = g} {gs = gs}) e = cc
pick_none (there {k = k} {gs = gs} p) e = cc

pick_one : {gs rest : Flat_goals} {g : Flat_goal} → Picks gs g rest → (h : Flat_goal) → gs ≡ flat_then h no_flat → (g ≡ h) × (rest ≡ no_flat)
pick_one (here {g = g} {gs = gs}) h e = (first g h gs e, second g h gs e)
  where
    first : (g h : Flat_goal) (gs : Flat_goals) → flat_then g gs ≡ flat_then h no_flat → g ≡ h
    first g h gs e = cc

    second : (g h : Flat_goal) (gs : Flat_goals) → flat_then g gs ≡ flat_then h no_flat → gs ≡ no_flat
    second g h gs e = cc
pick_one (there {k = k} {gs = gs} p) h e = absurd (pick_none p (second k h gs e))
  where
    second : (g h : Flat_goal) (gs : Flat_goals) → flat_then g gs ≡ flat_then h no_flat → gs ≡ no_flat
    second g h gs e = cc

-- a call of `+` reaches its end
module _ (T : ℕ → TypeTerm) where
  rest_ends : {O Q : List ℕ} {b : Insts} {gs : Flat_goals} {ns : Nodes} {o : Option Insts} → OrderedAll sums T O Q b gs ns o → gs ≡ no_flat → o ≡ None → ⊥
  rest_ends (O.done {b = b}) e n = some_none b n
  rest_ends (O.dropped p r) e n = pick_none p e
  rest_ends (O.next p r t) e n = pick_none p e
  rest_ends (O.implied_outputs tests p q m f d a y i u k af kc t) e n = pick_none p e

  plus_ends : (p : ℕ) (op : Builtin) (c : Insts) → p ≡ 9 → (sums.world.source.preds p).builtin ≡ Some op → unless_never (O.builtin_most op) c ≡ None → ⊥
  plus_ends p op c e q n = some_none c (subst (λ o. unless_never (O.builtin_most o) c ≡ None) (sym (some_is B.IntPlus op (subst (λ k. (sums.world.source.preds k).builtin ≡ Some op) e q))) n)
    where
      some_is : (a b : Builtin) → Some a ≡ Some b → a ≡ b
      some_is a b e = cc

  mutual
    call_ends : {O Q : List ℕ} {b : Insts} {g : Flat_goal} {s : Scheduled} {o : Option Insts} → Ordered sums T O Q b g s o → (xs : List ℕ) → g ≡ F.Call 9 xs → o ≡ None → ⊥
    call_ends (O.assign h k a) xs e n = cc
    call_ends (O.assign_back h k a) xs e n = cc
    call_ends (O.test h k s a) xs e n = cc
    call_ends (O.build h a m d k) xs e n = cc
    call_ends (O.take h d a k) xs e n = cc
    call_ends (O.take_never h d a) xs e n = cc
    call_ends (O.put h) xs e n = cc
    call_ends (O.test_constant h d a) xs e n = cc
    call_ends (O.test_never h d a) xs e n = cc
    call_ends (O.call l u d a) xs e n = let q : ◌≡◌ {A = ℕ} 0 9 = ap predicate_of e in omega (arith, q)
    call_ends (O.apply {c = c} {p = p} {op = op} q u d i a) xs e n = plus_ends p op c (ap predicate_of e) q n
    call_ends (O.implied_alone r) xs e n = calls_end r xs (ap (λ g. flat_then g no_flat) e) n
    call_ends (O.conj r) xs e n = cc
    call_ends (O.disj r j) xs e n = cc
    call_ends (O.switch h i r j) xs e n = cc
    call_ends (O.ite a rc bn rt re j) xs e n = cc
    call_ends (O.ite_never a rc m re j) xs e n = cc
    call_ends (O.neg r m) xs e n = cc
    call_ends (O.some a r) xs e n = cc

    node_ends : {O Q : List ℕ} {b : Insts} {g : Flat_goal} {m : Node} {o : Option Insts} → OrderedNode sums T O Q b g m o → (xs : List ℕ) → g ≡ F.Call 9 xs → o ≡ None → ⊥
    node_ends (O.kept r k) xs e n = call_ends r xs e n

    calls_end : {O Q : List ℕ} {b : Insts} {gs : Flat_goals} {ns : Nodes} {o : Option Insts} → OrderedAll sums T O Q b gs ns o → (xs : List ℕ) → gs ≡ flat_then (F.Call 9 xs) no_flat → o ≡ None → ⊥
    calls_end O.done xs e n = cc
    calls_end (O.dropped p r) xs e n = node_ends r xs (pick_one p (F.Call 9 xs) e).0 refl
    calls_end (O.next p r t) xs e n = rest_ends t (pick_one p (F.Call 9 xs) e).1 n
    calls_end (O.implied_outputs tests p q m f d a y i u k af kc t) xs e n = rest_ends t (pick_one p (F.Call 9 xs) e).1 n

unmarked : (o : Option Insts) → (o ≡ None → ⊥) → is_pruned (0 ∷ 1 ∷ 2 ∷ []) (entered (0 ∷ 1 ∷ 2 ∷ []) (1 ∷ 1 ∷ 1 ∷ [])) o ≡ true
unmarked None f = absurd (f refl)
unmarked (Some c) f = refl

pub marks_asked : MarksAreAsked
marks_asked = (accepted, (λ r. no (kept_mark r.ordered ∙ unmarked r.after (node_ends (type_of sums (turned semidet semidet false)) r.ordered (0 ∷ 1 ∷ 2 ∷ []) refl))))
  where
    no : false ≡ true → ⊥
    no e = cc

-- the one builtin is that of a line's end
no_builtin : (op : Builtin) → None ≡ Some op → ⊥
no_builtin op e = cc

one_builtin : (t : Bool) (op : Builtin) → (cond t line_pred main_pred).builtin ≡ Some op → op ≡ B.Nl
one_builtin true op e = some_is B.Nl op e
  where
    some_is : (a b : Builtin) → Some a ≡ Some b → b ≡ a
    some_is a b e = cc
one_builtin false op e = absurd (no_builtin op e)

silent_gives : (θ : TypeChoice) (t : Bool) (op : Builtin) → (cond t line_pred main_pred).builtin ≡ Some op → EachOf line_source θ (at_places false (inputs_of op) (cond t line_pred main_pred).types) (state (10 ∷ []) 0 ∷ [])
silent_gives θ true op e = subst (λ o. EachOf line_source θ (at_places false (inputs_of o) line_pred.types) (state (10 ∷ []) 0 ∷ [])) (sym (one_builtin true op e)) ((omega arith, refl), tt)
silent_gives θ false op e = absurd (no_builtin op e)

silent_fit : FitsBuiltins silent_lines.world
silent_fit =
    record {
      outputs = λ θ p op vs e i. silent_gives θ (nat_eq p 9) op e;
      succeeds = λ θ p op vs e i f q. gives_no q;
      error_throws = λ θ p vs e i. absurd (no_error (one_builtin (nat_eq p 9) B.Error e));
    }
  where
    gives_no : gives (state (10 ∷ []) 0 ∷ []) ≡ fails → ⊥
    gives_no e = cc

    no_error : B.Error ≡ B.Nl → ⊥
    no_error e = cc

-- it gives a line more, and writes none
line_more : (b : List ℕ) (taken : ℕ) → state (10 ∷ []) 0 ≡ state b taken → b ≡ [] → ⊥
line_more b taken e n = no (of_bytes b taken e ∙ n)
  where
    of_bytes : (b : List ℕ) (taken : ℕ) → state (10 ∷ []) 0 ≡ state b taken → ◌≡◌ {A = List ℕ} (10 ∷ []) b
    of_bytes b taken e = cc

    no : ◌≡◌ {A = List ℕ} (10 ∷ []) [] → ⊥
    no e = cc

silent_advances_not : (K : Library_types) → FitsIo silent_lines.world K → ⊥
silent_advances_not K io =
    let gained = io.advances (λ v. int_type) 9 B.Nl [] (state [] 0 ∷ []) refl ((omega arith, refl), tt) refl (0, refl) in
    line_more [] gained.0 gained.1 refl

silent_writes_not : GoodProcedures silent_lines → ⊥
silent_writes_not good =
    let said = good.writes (λ v. int_type) 9 9 0 (Some (state [] 0) ∷ None ∷ []) (omega arith) (record { first = refl; last = refl }) ((λ n. (n, (omega arith, refl), tt)), ((λ n. absurd (n refl)), tt)) [] 0 refl tt in
    line_more [] said.0.0 (second said.0.0 said.0.1) refl
  where
    second : (after : ℕ) → ◌≡◌ {A = List (Option Val)} (Some (state [] 0) ∷ Some (state (10 ∷ []) 0) ∷ []) (Some (state [] 0) ∷ Some (state [] after) ∷ []) → state (10 ∷ []) 0 ≡ state [] after
    second after e = cc

pub io_asked : IoIsAsked
io_asked = (insts_fit, M.types_of_lines, silent_fit, M.procedure_fits silent, (λ k l. M.accepted silent), silent_advances_not, silent_writes_not)
