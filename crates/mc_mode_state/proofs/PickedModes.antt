-- The mode that a call takes.
use Rattle.std.proofs.Common.{◌≡◌, ℕ, zero, suc, ◌<◌, ◌≤◌, ◌+◌, ◌-◌, Bool, true, false, List, [], ◌∷◌, length, get_or, drop, map, Option, Some, None, Ok, Err, nat_eq, nat_lt, if◌then◌else◌, refl, sym, ap, ap₂, ◌∙◌, arith}
use Rattle.mc_program.specs.Programs.{TypeTerm, Source}
use Rattle.mc_model.specs.declared.inst.ModeDecl.{ModeDecl}
use Rattle.mc_accepted.specs.Arranged.{Declared, Point, Arranged, breaks, wait, call_of, called, usable, better, best}
use Rattle.mc_accepted.specs.NodeOracle.{NodeOracle, of_nodes}
use Rattle.mc_mode_state.specs.Modes.{declared_mode, ModeFits, ModesFit}
use Rattle.mc_mode_state.specs.code.Picking.{better_pick, Takable, PickFits, IsPick, IsPicked}
use Rattle.mc_mode_state.specs.declared.picking.Pick.{Pick}
use Rattle.std.specs.List.{list_any}
use Rattle.mc_model.specs.Flat as F
use Rattle.mc_procs.specs.Named.{NumbersBelow}
use Rattle.mc_procs.specs.Procedures.{PlainProcs, source_of}
use Rattle.mc_mode_state.specs.States.{point_of}
use Rattle.mc_mode_state.specs.Agreeing.{OracleAgrees, StateInvariant, LaterByTrail}
use Rattle.mc_mode_state.specs.Answers.{tried, IsWaiting, Ran, Answers}
use Rattle.mc_mode_state.specs.declared.state.State.{State}
use Rattle.mc_mode_state.specs.declared.part.Part.{Part}
use Rattle.mc_mode_state.specs.declared.fault.Failed.{Failed}
use Rattle.mc_mode_state.specs.declared.fault.Failed.TheVariants as E
use Rattle.mc_mode_state.proofs.Ahead.{agrees-before}
use Rattle.mc_mode_state.proofs.AtomOutcomes.{waits-broke, atom-waits, atom-runs}
use Rattle.mc_mode_state.proofs.Steps.{same-refl, stepped-trans}
use Rattle.mc_mode_state.proofs.Numbers.{cons_at}

pub any-mode : (ms : List ModeDecl) (k : ℕ) (m n : ModeDecl) → k < length ms → get_or ms k m ≡ get_or ms k n
any-mode [] k m n h = absurd (omega arith)
any-mode (x ∷ ms) zero m n h = refl
any-mode (x ∷ ms) (suc k) m n h = any-mode ms k m n (omega arith)

takable-by : (modes : List ModeDecl) (xs : List ℕ) (b : Point ℕ) (p r : Pick) (t : Bool) → Takable modes xs b p → Takable modes xs b r → Takable modes xs b (if t then p else r)
takable-by modes xs b p r true a c = a
takable-by modes xs b p r false a c = c

pub takable-better : (modes : List ModeDecl) (xs : List ℕ) (b : Point ℕ) (k : ℕ) (is : List ℕ) (found : Option Pick) → PickFits modes xs b found → Takable modes xs b (record { place = k; implied = is }) → Takable modes xs b (better_pick k is found)
takable-better modes xs b k is None a c = c
takable-better modes xs b k is (Some p) a c = takable-by modes xs b p (record { place = k; implied = is }) (nat_lt (length p.implied) (length is)) a c

below-more : (n m : ℕ) (is : List ℕ) → n ≤ m → NumbersBelow n is → NumbersBelow m is
below-more n m [] h w = tt
below-more n m (i ∷ is) h w = (let a = w.0 in omega arith, below-more n m is h w.1)

pub mode-fits-later : (n m : ℕ) (d : ModeDecl) → n ≤ m → ModeFits n d → ModeFits m d
mode-fits-later n m d h w = record { as_many = w.as_many; first = below-more n m d.first h w.first; last = below-more n m d.last h w.last }

module _ (C : NodeOracle) (P : Source) (declared : ℕ → List Declared) (T : ℕ → TypeTerm) (modes : List ModeDecl) (xs : List ℕ) (b : Point ℕ) where
  chosen : (p r : Pick) (d e : Declared) (t u : Bool) → t ≡ u → IsPick modes xs b p e → IsPick modes xs b r d → IsPick modes xs b (if t then p else r) (if u then e else d)
  chosen p r d e true true h a c = a
  chosen p r d e true false h a c = cc
  chosen p r d e false true h a c = cc
  chosen p r d e false false h a c = c

  pub picked-better : (k : ℕ) (is : List ℕ) (d : Declared) (found : Option Pick) (o : Option Declared) → IsPicked modes xs b found o → IsPick modes xs b (record { place = k; implied = is }) d
      → IsPicked modes xs b (Some (better_pick k is found)) (Some (better (of_nodes C) P declared T xs b d o))
  picked-better k is d None None a c = c
  picked-better k is d None (Some e) a c = absurd a
  picked-better k is d (Some p) None a c = absurd a
  picked-better k is d (Some p) (Some e) a c =
      chosen p (record { place = k; implied = is }) d e (nat_lt (length p.implied) (length is)) _ (ap₂ (λ (x y : List ℕ). nat_lt (length x) (length y)) a.implied c.implied) a c

  abbrev pub best_of : List ModeDecl → Option Declared
  best_of ms = best (of_nodes C) P declared T (map declared_mode ms) xs b

  abbrev pub usable_of : ModeDecl → Bool
  usable_of m = usable (of_nodes C) P declared T xs (declared_mode m).modes xs b

  best-at : (j k : ℕ) (m : ModeDecl) → k ≡ j + 1 → j < length modes → best_of (drop j modes) ≡ (if usable_of (get_or modes j m) then Some (better (of_nodes C) P declared T xs b (declared_mode (get_or modes j m)) (best_of (drop k modes))) else best_of (drop k modes))
  best-at j k m e h =
      ap best_of (cons_at modes j m h)
      ∙ ap (λ n. if usable_of (get_or modes j m) then Some (better (of_nodes C) P declared T xs b (declared_mode (get_or modes j m)) (best_of (drop n modes))) else best_of (drop n modes)) (sym e)

  -- one mode more from the end
  pub best-one : (k : ℕ) (m : ModeDecl) → 0 < k → k ≤ length modes → best_of (drop (k - 1) modes) ≡ (if usable_of (get_or modes (k - 1) m) then Some (better (of_nodes C) P declared T xs b (declared_mode (get_or modes (k - 1) m)) (best_of (drop k modes))) else best_of (drop k modes))
  best-one k m h l = best-at (k - 1) k m (omega arith) (omega arith)

pub mode-fits : (n : ℕ) (ms : List ModeDecl) (k : ℕ) (m : ModeDecl) → ModesFit n ms → k < length ms → ModeFits n (get_or ms k m)
mode-fits n [] k m w h = absurd (omega arith)
mode-fits n (x ∷ ms) zero m w h = w.0
mode-fits n (x ∷ ms) (suc k) m w h = mode-fits n ms k m w.1 (omega arith)

module _ (q : PlainProcs) (s : State) (declared : ℕ → List Declared) (O : List ℕ) (st : StateInvariant q s) (p : ℕ) (modes : List ModeDecl) (xs : List ℕ)
    (d : declared p ≡ map declared_mode modes) (none : ((source_of q).preds p).builtin ≡ None) where
  abbrev here : Point ℕ
  here = point_of s.insts.items

  abbrev count : ℕ
  count = length s.insts.items

  abbrev Dies : Bool → Type 0
  Dies t = list_any (λ z. nat_eq (here z) 3) xs ≡ t

  abbrev best_here : (C : NodeOracle) (T : ℕ → TypeTerm) → Option Declared
  best_here C T = best (of_nodes C) (source_of q) declared T (map declared_mode modes) xs here

  abbrev called_by : (C : NodeOracle) (T : ℕ → TypeTerm) → Option Declared → Arranged ℕ
  called_by C T o = called (of_nodes C) (source_of q) declared T o xs count here

  call-is : (C : NodeOracle) (T : ℕ → TypeTerm) → OracleAgrees q s C T → Dies false → tried declared (F.Call p xs) O q s C T ≡ called_by C T (best_here C T)
  call-is C T a h =
      atom-runs q s declared st C T a xs (call_of (of_nodes C) (source_of q) declared T ((source_of q).preds p).builtin p xs count here) h
      ∙ (ap (λ o. call_of (of_nodes C) (source_of q) declared T o p xs count here) none
      ∙ ap (λ ds. called_by C T (best (of_nodes C) (source_of q) declared T ds xs here)) d)

  pub call-dead : (f : Failed) → IsWaiting xs here f → Dies true → Answers (tried declared (F.Call p xs) O q s) q q s s (Err f)
  call-dead f w h =
      waits-broke q s declared st (tried declared (F.Call p xs) O q s) xs f w
      (λ C T a. atom-waits q s declared st C T a xs (call_of (of_nodes C) (source_of q) declared T ((source_of q).preds p).builtin p xs count here) h)

  none-picked : (o : Option Declared) → IsPicked modes xs here None o → o ≡ None
  none-picked None a = refl
  none-picked (Some e) a = absurd a

  waits-later : (r : PlainProcs) (f : Failed) → IsWaiting xs here f → LaterByTrail q r s s
      → ((C : NodeOracle) (T : ℕ → TypeTerm) → OracleAgrees r s C T → tried declared (F.Call p xs) O q s C T ≡ wait (of_nodes C) (source_of q) declared T xs here)
      → Answers (tried declared (F.Call p xs) O q s) q r s s (Err f)
  waits-later r (E.Fault f) w step e = record {
    outcome = λ C T a. e C T a ∙ ap breaks (sym w);
    same = same-refl s;
    moved = step.moved;
  }
  waits-later r E.Memory w step e = tt

  pub call-waits : (r : PlainProcs) (f : Failed) → IsWaiting xs here f → Dies false → LaterByTrail q r s s
      → ((C : NodeOracle) (T : ℕ → TypeTerm) → OracleAgrees r s C T → IsPicked modes xs here None (best_here C T)) → Answers (tried declared (F.Call p xs) O q s) q r s s (Err f)
  call-waits r f w h step e =
      waits-later r f w step
      (λ C T a. call-is C T (agrees-before q r s s C T st step.moved a) h ∙ ap (called_by C T) (none-picked (best_here C T) (e C T a)))

  some-picked : (k : Pick) (m : ModeDecl) (o : Option Declared) → IsPicked modes xs here (Some k) o → o ≡ Some (declared_mode (get_or modes k.place m))
  some-picked k m None a = absurd a
  some-picked k m (Some e) a = ap Some (sym (a.is m))

  pub call-runs : (r u : PlainProcs) (t : State) (part : Part) (k : Pick) (m : ModeDecl) → Dies false → LaterByTrail q r s s
      → ((C : NodeOracle) (T : ℕ → TypeTerm) → OracleAgrees r s C T → IsPicked modes xs here (Some k) (best_here C T))
      → Ran (λ C T. called (of_nodes C) (source_of r) declared T (Some (declared_mode (get_or modes k.place m))) xs count here) r u s t part
      → Answers (tried declared (F.Call p xs) O q s) q u s t (Ok part)
  call-runs r u t part k m h step e ran = record {
    outcome = λ C T a.
        let b = agrees-before r u s t C T step.moved.stands ran.stepped.moved a in
        call-is C T (agrees-before q r s s C T st step.moved b) h
        ∙ (ap (called_by C T) (some-picked k m (best_here C T) (e C T b))
        ∙ (ap (λ P. called (of_nodes C) P declared T (Some (declared_mode (get_or modes k.place m))) xs count here) (sym (ap source_of step.moved.nodes.others))
        ∙ ran.outcome C T a));
    fresh = ran.fresh;
    stepped = stepped-trans q r u s s t step ran.stepped;
  }
