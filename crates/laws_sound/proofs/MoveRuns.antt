-- What calls do to the world gives what a run of main's form writes.
use Rattle.std.proofs.Common.{◌≡◌, ◌⊎◌, inl, length, ℕ, zero, suc, ◌<◌, List, [], ◌∷◌, ◌++◌, false, Option, Some, None, refl, sym, ap, ap₂, ◌∙◌, subst, arith}
use Rattle.mc_program.specs.Values.{Val, state}
use Rattle.mc_program.specs.Programs.{TypeTerm}
use Rattle.mc_model.specs.EventList.{Items, Each, written}
use Rattle.mc_model.specs.Stream.{below, calls, run_call}
use Rattle.mc_accepted.specs.Ordered.{Mode, modes_of_procedure, zipped}
use Rattle.mc_model.specs.Good.{System, TypeChoice, Shape, Given, Keeps, types_of, WritesAll, TakesState}
use Rattle.mc_accepted.specs.ProperTypes.{Parameters}
use Rattle.mc_accepted.specs.Fits.{Fits}
use Rattle.mc_accepted.specs.Accepted.{Accepted}
use Rattle.laws_sound.specs.code.Moves.{World, Flow, Tells, OnePlace, Taken, Handed, Returned, CallsMove, ReturnedBy, EachShares, StateAt, AllowsShared, TidyModes, TidyProcedures}
use Rattle.mc_accepted.specs.Tidy.{EachTidy}
use Rattle.mc_accepted.specs.Inclusion.{Path}
use Rattle.mc_program.specs.Programs.{TypeTerm, state_type}
use Rattle.laws_sound.proofs.MoveEntry.{calls_move}
use Rattle.laws_sound.proofs.Entry.{calls_sound}
use Rattle.laws_sound.proofs.LendEntry.{calls_lend}
use Rattle.laws_language.proofs.Levels.{call_levels}
use Rattle.laws_sound.proofs.Lists
use Rattle.laws_sound.proofs.MoveLists

-- the arguments of main's form
abbrev pub MainModes : List Mode
MainModes = (2, 3) ∷ (0, 2) ∷ []

some_is : (v w : List ℕ) → Some v ≡ Some w → v ≡ w
some_is v w e = cc

answer_is : (w w' : List ℕ) (taken : ℕ) (os : List (Option Val)) → Keeps (2 ∷ 0 ∷ []) (Some (state w taken) ∷ None ∷ []) os → Returned MainModes os (Tells (Some w')) → (after : ℕ) × (os ≡ Some (state w taken) ∷ Some (state w' after) ∷ [])
answer_is w w' taken [] k r = absurd k
answer_is w w' taken (o ∷ []) k r = absurd k.1
answer_is w w' taken (o ∷ p ∷ q ∷ os) k r = absurd k.1.1
answer_is w w' taken (o ∷ p ∷ []) k r =
    let t = r.1.0 refl in
    (t.1, ap₂ (λ u v. u ∷ v ∷ []) (k.0 (λ z. two z)) (t.3 ∙ ap (λ u. Some (state u t.1)) (sym (some_is w' t.0 t.2))))
  where
    two : (◌≡◌ {A = ℕ} 2 0) → ⊥
    two e = omega arith

module _ (S : System) (D : Parameters) (F : Fits S D) (accepted : Accepted S) (k : ℕ) (l : k < S.count) (first : (S.procs k).first ≡ 2 ∷ 0 ∷ []) (last : (S.procs k).last ≡ 3 ∷ 2 ∷ []) where
  modes_are : modes_of_procedure (S.procs k) ≡ MainModes
  modes_are = ap₂ (λ is ls. zipped is ls) first last

  state_at : (w : List ℕ) (taken : ℕ) (t : TypeTerm) (v : Val) → Some (state w taken) ≡ Some v → (path : Path) → StateAt v path → t ≡ state_type → ((path ≡ []) × (t ≡ state_type)) ⊎ AllowsShared S.world.source S.insts path 2
  state_at w taken t v q path s e = on path (subst (λ u. StateAt u path) (sym (Rattle.laws_sound.proofs.Binds.some_inj (state w taken) v q)) s)
    where
      on : (path : Path) → StateAt (state w taken) path → ((path ≡ []) × (t ≡ state_type)) ⊎ AllowsShared S.world.source S.insts path 2
      on [] s = inl (refl, e)
      on (step ∷ path) s = absurd s

  below_flows : (Q : World → List (Option Val) → Type 0) (W : World) (h : ℕ) (f : ℕ → Items (List (Option Val))) → ((j : ℕ) → Flow Q false W (f j)) → Flow Q false W (below h f)
  below_flows Q W zero f s = tt
  below_flows Q W (suc h) f s = s h

  below_each : (P : List (Option Val) → Type 0) (h : ℕ) (f : ℕ → Items (List (Option Val))) → ((j : ℕ) → Each P (f j)) → Each P (below h f)
  below_each P zero f s = tt
  below_each P (suc h) f s = s h

  main_shares : (w : List ℕ) (taken : ℕ) (ts : List TypeTerm) → EachTidy S.world.source S.insts (2 ∷ 0 ∷ []) ts → EachShares S (2 ∷ 0 ∷ []) ts (Some (state w taken) ∷ None ∷ [])
  main_shares w taken [] y = tt
  main_shares w taken (t ∷ []) y = ((λ n d v q path s. state_at w taken t v q path s (y.0 [] 2 t (refl, refl) (inl F.insts.is_unique))), tt)
  main_shares w taken (t ∷ u ∷ ts) y = ((λ n d v q path s. state_at w taken t v q path s (y.0 [] 2 t (refl, refl) (inl F.insts.is_unique))), ((λ n. absurd (n refl)), tt))

  pub run_writes : (n : ℕ) → CallsMove S (calls S.world.outcome S.procs n) → (θ : TypeChoice) (h : ℕ) (vs : List (Option Val)) → Given S θ (S.procs k).first (types_of S (S.procs k)) vs → WritesAll vs (run_call S.world.outcome S.procs n h k vs)
  run_writes n moved θ h vs g w taken q end =
      let f : ℕ → Items (List (Option Val)) = λ j. calls S.world.outcome S.procs n j k vs in
      let same = call_levels S.world.outcome S.procs n (suc n) h (omega arith) k vs in
      let one : OnePlace Taken (modes_of_procedure (S.procs k)) = subst (λ ms. OnePlace Taken ms) (sym modes_are) ((λ z. ((λ y. no y), tt)), ((λ z. tt), tt)) in
      let handed : Handed (modes_of_procedure (S.procs k)) vs (Tells (Some w)) = subst (λ ms. Handed ms vs (Tells (Some w))) (sym modes_are) (subst (λ us. Handed MainModes us (Tells (Some w))) (sym q) ((λ z. (w, taken, refl, refl)), ((λ z. absurd (no z)), tt))) in
      let shared : EachShares S (S.procs k).first (types_of S (S.procs k)) vs = subst (λ is. EachShares S is (types_of S (S.procs k)) vs) (sym first) (subst (λ us. EachShares S (2 ∷ 0 ∷ []) (types_of S (S.procs k)) us) (sym q) (main_shares w taken (types_of S (S.procs k)) (subst (λ is. EachTidy S.world.source S.insts is (types_of S (S.procs k))) first (F.procedures k l).tidy.0))) in
      let fl : Flow (ReturnedBy S (S.procs k)) false (Some w) (below h f) = below_flows (ReturnedBy S (S.procs k)) (Some w) h f (λ j. moved θ j k vs l g shared (Some w) one handed) in
      let flc = subst (λ xs. Flow (ReturnedBy S (S.procs k)) false (Some w) xs) same (MoveLists.flow_cut (ReturnedBy S (S.procs k)) (Some w) n (below h f) fl) in
      let P : List (Option Val) → Type 0 = λ os. Shape S θ (S.procs k).last (types_of S (S.procs k)) os × Keeps (S.procs k).first vs os in
      let kept : Each P (run_call S.world.outcome S.procs n h k vs) = subst (λ xs. Each P xs) same (Lists.each_cut P (λ os. Unit {0}) n (below h f) (below_each P h f (λ j. (calls_sound S D F accepted n θ j k vs l g).each))) in
      let R : List (Option Val) → Type 0 = ReturnedBy S (S.procs k) (Some (w ++ written (run_call S.world.outcome S.procs n h k vs))) in
      let said : Each R (run_call S.world.outcome S.procs n h k vs) = MoveLists.flow_says (ReturnedBy S (S.procs k)) w (run_call S.world.outcome S.procs n h k vs) flc end in
      Lists.each_map (λ os. P os × R os) (λ os. (after : ℕ) × (os ≡ Some (state w taken) ∷ Some (state (w ++ written (run_call S.world.outcome S.procs n h k vs)) after) ∷ []))
      (λ os z. answer_is w (w ++ written (run_call S.world.outcome S.procs n h k vs)) taken os (subst (λ us. Keeps (2 ∷ 0 ∷ []) us os) q (subst (λ is. Keeps is vs os) first z.0.1)) (subst (λ ms. Returned ms os (Tells (Some (w ++ written (run_call S.world.outcome S.procs n h k vs))))) modes_are z.1.0.1))
      (run_call S.world.outcome S.procs n h k vs) (Lists.each_both P R (run_call S.world.outcome S.procs n h k vs) kept said)
    where
      no : (◌≡◌ {A = ℕ} 0 2) → ⊥
      no e = omega arith

-- tidy insts make tidy modes
tidy_modes : (S : System) (D : Parameters) (F : Fits S D) (is ls : List ℕ) (ts : List TypeTerm) → length is ≡ length ts → length ls ≡ length ts → EachTidy S.world.source S.insts is ts → EachTidy S.world.source S.insts ls ts → TidyModes S (zipped is ls) ts
tidy_modes S D F [] ls [] e f y z = tt
tidy_modes S D F [] ls (t ∷ ts) e f y z = absurd (omega (arith, e))
tidy_modes S D F (i ∷ is) [] [] e f y z = absurd (omega (arith, e))
tidy_modes S D F (i ∷ is) [] (t ∷ ts) e f y z = absurd (omega (arith, f))
tidy_modes S D F (i ∷ is) (l ∷ ls) [] e f y z = absurd (omega (arith, e))
tidy_modes S D F (i ∷ is) (l ∷ ls) (t ∷ ts) e f y z = (
  (λ q. y.0 [] i t (refl, refl) (inl (ap S.insts q ∙ F.insts.is_unique))),
  (λ q. z.0 [] l t (refl, refl) (inl (ap S.insts q ∙ F.insts.is_unique))),
  tidy_modes S D F is ls ts (omega (arith, e)) (omega (arith, f)) y.1 z.1,
)

pub main_writes : (S : System) (D : Parameters) → Fits S D → Accepted S → (θ : TypeChoice) (n h k : ℕ) (vs : List (Option Val)) → k < S.count → TakesState (S.procs k) → Given S θ (S.procs k).first (types_of S (S.procs k)) vs → WritesAll vs (run_call S.world.outcome S.procs n h k vs)
main_writes S D F A θ n h k vs l takes g =
    let tidy : TidyProcedures S = λ j m. tidy_modes S D F (S.procs j).first (S.procs j).last (types_of S (S.procs j)) (A j m).lengths.0 (A j m).lengths.1 (F.procedures j m).tidy.0 (F.procedures j m).tidy.1 in
    let K = F.io.0 in
    let io = F.io.1 in
    run_writes S D F A k l takes.first takes.last n (calls_move S D F A tidy K io (calls_lend S D F A tidy K io) n) θ h vs g
