-- What is told of modes by the rule of unique modes, one behind another.
use Rattle.std.proofs.Common.{◌≡◌, ◌↔◌, ℕ, zero, suc, ◌+◌, ◌<◌, ◌≤◌, Bool, true, false, true≢false, IsTrue, List, [], ◌∷◌, ◌++◌, length, get_or, map, take, refl, sym, ap, ◌∙◌, subst, arith, append_assoc}
use Rattle.std.specs.Prelude.{Option, Some, None}
use Rattle.std.proofs.lemmas.List.{take_more, take_all, get_or-map, length-map}
use Rattle.mc_source.specs.declared.rule.Broken.{Broken}
use Rattle.mc_source.specs.Rules.{Fault, broken_at}
use Rattle.mc_program.specs.Programs.{TypeTerm, Source}
use Rattle.mc_program.specs.PlainPrograms.{plain_type}
use Rattle.mc_program.specs.declared.ty.Ty.{Ty}
use Rattle.mc_model.specs.Insts.{Graph}
use Rattle.mc_model.specs.declared.inst.ModeDecl.{ModeDecl}
use Rattle.mc_model.specs.declared.inst.Sig.{Sig}
use Rattle.mc_accepted.specs.InstRules.{outside_io}
use Rattle.mc_accepted.specs.Tidy.{Tidy, EachTidy}
use Rattle.mc_insts.proofs.Found.{by_order}
use Rattle.mc_procs.specs.Named.{NumbersBelow}
use Rattle.mc_mode_state.specs.Modes.{ModeFits, ModesFit}
use Rattle.mc_modes.specs.Signatures.{SigsFit}
use Rattle.mc_analysis.specs.Untidy.{ModeIsTidy, TidySays, is_tidy, is_untidy, ModesSay, no_mode, mode_then, AreUntidy, no_predicate, predicate_then}

module _ (P : Source) (G : Graph) where
  -- one more mode
  modes_behind :
      (ts : List TypeTerm) (ms : List ModeDecl) (m : ModeDecl) (f : Option Fault) (bs : List Broken)
      → ModesSay P G ts ms bs → TidySays P G ts m f → ModesSay P G ts (ms ++ m ∷ []) (bs ++ broken_at m.at f)
  modes_behind ts [] m f [] no_mode one = subst (ModesSay P G ts (m ∷ [])) (ends (broken_at m.at f)) (mode_then one no_mode)
    where
      ends : (bs : List Broken) → bs ++ [] ≡ bs
      ends [] = refl
      ends (b ∷ bs) = ap (λ cs. b ∷ cs) (ends bs)
  modes_behind ts [] m f (b ∷ bs) says one = elim says [ ]
  modes_behind ts (n ∷ ms) m f bs (mode_then {f = g} {bs = cs} says all) one =
      subst (ModesSay P G ts (n ∷ (ms ++ m ∷ []))) (sym (append_assoc (broken_at n.at g) cs (broken_at m.at f)))
      (mode_then says (modes_behind ts ms m f cs all one))

  -- one more predicate
  untidy_behind :
      (ss : List Sig) (s : Sig) (bs cs : List Broken)
      → AreUntidy P G ss bs → ModesSay P G (P.preds s.pred).types s.modes cs → AreUntidy P G (ss ++ s ∷ []) (bs ++ cs)
  untidy_behind [] s [] cs no_predicate one = subst (AreUntidy P G (s ∷ [])) (ends cs) (predicate_then one no_predicate)
    where
      ends : (bs : List Broken) → bs ++ [] ≡ bs
      ends [] = refl
      ends (b ∷ bs) = ap (λ cs. b ∷ cs) (ends bs)
  untidy_behind [] s (b ∷ bs) cs says one = elim says [ ]
  untidy_behind (r ∷ ss) s bs cs (predicate_then {bs = told} {cs = rest} says all) one =
      subst (AreUntidy P G (r ∷ (ss ++ s ∷ []))) (sym (append_assoc told rest cs))
      (predicate_then says (untidy_behind ss s rest cs all one))

  taken : {A : Type 0} (xs : List A) (k : ℕ) (x : A) → k < length xs → x ≡ get_or xs k x → take (k + 1) xs ≡ take k xs ++ x ∷ []
  taken {A} xs k x below at = take_more xs k x below ∙ ap (λ (y : A). take k xs ++ y ∷ []) (sym at)

  -- a mode that is tidy adds nothing; another adds what is told of it
  pub tidy_more :
      (ts : List TypeTerm) (ms : List ModeDecl) (k : ℕ) (m : ModeDecl) (bs : List Broken)
      → k < length ms → m ≡ get_or ms k m → ModeIsTidy P G ts m
      → ModesSay P G ts (take k ms) bs → ModesSay P G ts (take (k + 1) ms) bs
  tidy_more ts ms k m bs below at tidy all =
      subst (λ (ns : List ModeDecl). ModesSay P G ts ns bs) (sym (taken ms k m below at))
      (subst (ModesSay P G ts (take k ms ++ m ∷ [])) (ends bs) (modes_behind ts (take k ms) m None bs all (is_tidy tidy)))
    where
      ends : (bs : List Broken) → bs ++ [] ≡ bs
      ends [] = refl
      ends (b ∷ bs) = ap (λ cs. b ∷ cs) (ends bs)

  pub untidy_more :
      (ts : List TypeTerm) (ms : List ModeDecl) (k : ℕ) (m : ModeDecl) (b : Broken) (bs : List Broken)
      → k < length ms → m ≡ get_or ms k m → (ModeIsTidy P G ts m → ⊥) → b ∷ [] ≡ broken_at m.at (Some outside_io)
      → ModesSay P G ts (take k ms) bs → ModesSay P G ts (take (k + 1) ms) (bs ++ b ∷ [])
  untidy_more ts ms k m b bs below at other told all =
      subst (λ (ns : List ModeDecl). ModesSay P G ts ns (bs ++ b ∷ [])) (sym (taken ms k m below at))
      (subst (λ cs. ModesSay P G ts (take k ms ++ m ∷ []) (bs ++ cs)) (sym told) (modes_behind ts (take k ms) m (Some outside_io) bs all (is_untidy other)))

  pub modes_all : (ts : List TypeTerm) (ms : List ModeDecl) (k : ℕ) (bs : List Broken) → length ms ≤ k → ModesSay P G ts (take k ms) bs → ModesSay P G ts ms bs
  modes_all ts ms k bs past all = subst (λ (ns : List ModeDecl). ModesSay P G ts ns bs) (take_all k ms past) all

  pub predicates_more :
      (ss : List Sig) (k : ℕ) (s : Sig) (bs cs : List Broken)
      → k < length ss → s ≡ get_or ss k s → ModesSay P G (P.preds s.pred).types s.modes cs
      → AreUntidy P G (take k ss) bs → AreUntidy P G (take (k + 1) ss) (bs ++ cs)
  predicates_more ss k s bs cs below at one all =
      subst (λ (rs : List Sig). AreUntidy P G rs (bs ++ cs)) (sym (taken ss k s below at)) (untidy_behind (take k ss) s bs cs all one)

  pub predicates_all : (ss : List Sig) (k : ℕ) (bs : List Broken) → length ss ≤ k → AreUntidy P G (take k ss) bs → AreUntidy P G ss bs
  predicates_all ss k bs past all = subst (λ (rs : List Sig). AreUntidy P G rs bs) (take_all k ss past) all

  -- insts at types, place by place
  pub each_tidy : (is : List ℕ) (ts : List TypeTerm) → ((k : ℕ) (t : TypeTerm) → k < length is → k < length ts → t ≡ get_or ts k t → Tidy P G (get_or is k 0) t) → EachTidy P G is ts
  each_tidy [] ts all = tt
  each_tidy (i ∷ is) [] all = tt
  each_tidy (i ∷ is) (t ∷ ts) all =
      (all 0 t (omega arith) (omega arith) refl, each_tidy is ts (λ k u below less at. all (suc k) u (omega arith) (omega arith) at))

  pub tidy_at : (is : List ℕ) (ts : List TypeTerm) (k : ℕ) (t : TypeTerm) → k < length is → k < length ts → t ≡ get_or ts k t → EachTidy P G is ts → Tidy P G (get_or is k 0) t
  tidy_at [] ts k t below less at all = absurd (omega arith)
  tidy_at (i ∷ is) [] k t below less at all = absurd (omega arith)
  tidy_at (i ∷ is) (u ∷ ts) zero t below less at all = subst (Tidy P G i) (sym at) all.0
  tidy_at (i ∷ is) (u ∷ ts) (suc k) t below less at all = tidy_at is ts k t (omega arith) (omega arith) at all.1

  -- insts are tidy at types up to a place
  abbrev pub TidyTo : List ℕ → List TypeTerm → ℕ → Type 0
  TidyTo is ts k = (j : ℕ) (t : TypeTerm) → j < k → j < length ts → t ≡ get_or ts j t → Tidy P G (get_or is j 0) t

  -- past the last type all are tidy
  pub past_types : (is : List ℕ) (ts : List Ty) (k : ℕ) → length ts ≤ k → TidyTo is (map plain_type ts) k → (IsTrue true ↔ EachTidy P G is (map plain_type ts))
  past_types is ts k past all =
      let e : length (map plain_type ts) ≡ length ts = length-map ts plain_type in
      (λ t. each_tidy is (map plain_type ts) (λ j u below less at. all j u (omega arith) less at), λ f. refl)

  -- past the last inst all are tidy
  pub past_nodes : (is : List ℕ) (ts : List Ty) (k : ℕ) → length is ≤ k → TidyTo is (map plain_type ts) k → (IsTrue true ↔ EachTidy P G is (map plain_type ts))
  past_nodes is ts k past all =
      (λ t. each_tidy is (map plain_type ts) (λ j u below less at. all j u (omega arith) less at), λ f. refl)

  -- one that isn't is enough
  pub untidy_at :
      (is : List ℕ) (ts : List Ty) (k : ℕ) (t : Ty) (b : Bool)
      → b ≡ false → k < length is → k < length ts → t ≡ get_or ts k t → (IsTrue b ↔ Tidy P G (get_or is k 0) (plain_type t))
      → (IsTrue false ↔ EachTidy P G is (map plain_type ts))
  untidy_at is ts k t b off below less at h =
      let e : length (map plain_type ts) ≡ length ts = length-map ts plain_type in (
        λ f. absurd (true≢false (sym f)),
        λ all.
            subst (λ (x : Bool). IsTrue x) off
            (h.1 (tidy_at is (map plain_type ts) k (plain_type t) below (omega arith) (sym (get_or-map plain_type ts k t (plain_type t) less ∙ ap plain_type (sym at))) all)),
      )

  pub one_more_tidy :
      (is : List ℕ) (ts : List Ty) (k : ℕ) (t : Ty)
      → k < length ts → t ≡ get_or ts k t → Tidy P G (get_or is k 0) (plain_type t)
      → TidyTo is (map plain_type ts) k → TidyTo is (map plain_type ts) (k + 1)
  one_more_tidy is ts k t less at tidy all j u lt short here =
      by_order j k (λ l. all j u l short here)
      (λ e.
      let same : u ≡ plain_type t = here ∙ ap (λ (n : ℕ). get_or (map plain_type ts) n u) e ∙ get_or-map plain_type ts k t u less ∙ ap plain_type (sym at) in
      subst (λ (n : ℕ). Tidy P G (get_or is n 0) u) (sym e) (subst (Tidy P G (get_or is k 0)) (sym same) tidy))
      (λ g. absurd (let no : ⊥ = omega arith in no))

-- nothing is told before the first mode, and the first predicate
module _ (P : Source) (G : Graph) where
  pub no_mode_yet : (ts : List TypeTerm) (bs : List Broken) → bs ≡ [] → ModesSay P G ts [] bs
  no_mode_yet ts bs none = subst (ModesSay P G ts []) (sym none) no_mode

  pub no_predicate_yet : (bs : List Broken) → bs ≡ [] → AreUntidy P G [] bs
  no_predicate_yet bs none = subst (AreUntidy P G []) (sym none) no_predicate

-- numbers that are below, and modes whose insts are there, are so one by one
pub below_at : (n : ℕ) (xs : List ℕ) (k : ℕ) → k < length xs → NumbersBelow n xs → get_or xs k 0 < n
below_at n [] k below all = absurd (omega arith)
below_at n (x ∷ xs) zero below all = all.0
below_at n (x ∷ xs) (suc k) below all = below_at n xs k (omega arith) all.1

pub mode_fits_at : (n : ℕ) (ms : List ModeDecl) (k : ℕ) (m : ModeDecl) → k < length ms → m ≡ get_or ms k m → ModesFit n ms → ModeFits n m
mode_fits_at n [] k m below at all = absurd (omega arith)
mode_fits_at n (d ∷ ms) zero m below at all = subst (ModeFits n) (sym at) all.0
mode_fits_at n (d ∷ ms) (suc k) m below at all = mode_fits_at n ms k m (omega arith) at all.1

pub sig_fits_at : (n : ℕ) (sigs : List Sig) (k : ℕ) (s : Sig) → k < length sigs → s ≡ get_or sigs k s → SigsFit n sigs → ModesFit n s.modes
sig_fits_at n sigs k s below at all =
    subst (ModesFit n) (get_or-map (λ (r : Sig). r.modes) sigs k s [] below ∙ ap (λ (r : Sig). r.modes) (sym at)) (all k)
