-- From what phases tell to what one behind another tells.
use Rattle.std.proofs.Common.{◌≡◌, List, [], ◌∷◌, Result, Ok, Err, refl, sym, subst}
use Rattle.std.specs.Prelude.{IsErrAnd}
use Rattle.mc_source.specs.declared.rule.Broken.{Broken}
use Rattle.mc_compile.specs.declared.given.CompileFault.{CompileFault}
use Rattle.mc_compile.specs.declared.given.CompileFault.TheVariants as F
use Rattle.mc_compile.specs.Phases.{Refusal, Breaks, unless_broken, Then, stopped, went_on, Tells, Viewed}
use Rattle.mc_compile.proofs.Once.{ok_same}

-- where the first phase goes no further
pub stops : {A B C X Y : Type 0} (First : A → Result B Refusal → Type 0) (Second : B → Result C Refusal → Type 0) (V : X → B → Type 0) (W : Y → C → Type 0) (a : A) (fault : CompileFault) → Tells First V a (Err fault) → Tells (Then First Second) W a (Err fault)
stops First Second V W a (F.Rejected rules) t = stopped t
stops First Second V W a F.Memory t = tt

-- where it goes on, and the second phase tells this
pub goes_on : {A B C Y : Type 0} (First : A → Result B Refusal → Type 0) (Second : B → Result C Refusal → Type 0) (W : Y → C → Type 0) (a : A) (b : B) (r : Result Y CompileFault) → First a (Ok b) → Tells Second W b r → Tells (Then First Second) W a r
goes_on First Second W a b (Ok y) f t = (t.0, t.1, went_on f t.2)
goes_on First Second W a b (Err (F.Rejected rules)) f t = went_on f t
goes_on First Second W a b (Err F.Memory) f t = tt

-- the same by the view of what the first phase makes
pub goes_on_by : {A B C X Y : Type 0} (First : A → Result B Refusal → Type 0) (Second : B → Result C Refusal → Type 0) (view : X → B) (W : Y → C → Type 0) (a : A) (x : X) (r : Result Y CompileFault)
    → Tells First (Viewed view) a (Ok x) → Tells Second W (view x) r → Tells (Then First Second) W a r
goes_on_by First Second view W a x r f t = goes_on First Second W a (view x) r (subst (λ b. First a (Ok b)) (sym f.1) f.2) t

-- want of memory tells nothing
pub memory_tells : {A B X : Type 0} (Phase : A → Result B Refusal → Type 0) (V : X → B → Type 0) (a : A) (r : Result X CompileFault) → IsErrAnd r (λ e. e ≡ F.Memory) → Tells Phase V a r
memory_tells Phase V a (Err fault) h = subst (λ e. Tells Phase V a (Err e)) (sym h) tt
memory_tells Phase V a (Ok x) h = absurd h

-- rules that are broken, and none
pub broken_up : {A : Type 0} (rules : List Broken) (made : A) → (rules ≡ [] → ⊥) → ◌≡◌ {A = Result A Refusal} (Err (Breaks rules)) (unless_broken rules made)
broken_up [] made some = absurd (some refl)
broken_up (rule ∷ rules) made some = refl

-- what a phase makes, where it makes something, and that no rule is broken then
pub unbroken_made : {A : Type 0} (rules : List Broken) (made x : A) → ◌≡◌ {A = Result A Refusal} (Ok x) (unless_broken rules made) → x ≡ made
unbroken_made [] made x e = ok_same x made e
unbroken_made (rule ∷ rules) made x e = cc

pub unbroken : {A : Type 0} (rules : List Broken) (made x : A) → ◌≡◌ {A = Result A Refusal} (Ok x) (unless_broken rules made) → rules ≡ []
unbroken [] made x e = refl
unbroken (rule ∷ rules) made x e = cc

pub none_broken : {A : Type 0} (rules : List Broken) (made : A) → rules ≡ [] → ◌≡◌ {A = Result A Refusal} (Ok made) (unless_broken rules made)
none_broken [] made none = refl
none_broken (rule ∷ rules) made none = cc
