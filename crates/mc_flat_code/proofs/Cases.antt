-- Branches are made for arms one after another.
use Rattle.std.proofs.Common.{◌≡◌, ℕ, suc, ◌<◌, ◌+◌, refl, sym, ap, ◌∙◌, subst, List, [], ◌∷◌, ◌++◌, length, length-append, take, drop, map, get_or, Option, Some, IfSome, Vec, Global, arith}
use Rattle.std.proofs.Math.Seq.{take-length, drop-append_seam}
use Rattle.std.proofs.lemmas.List.{take_more, map_push}
use Rattle.mc_model.specs.Scheduled.{Label, Node, Arms, no_arms, arm_then}
use Rattle.mc_model.specs.PlainGoals.{plain_arm, arms_of}
use Rattle.mc_model.specs.declared.sched.Arm.{Arm}
use Rattle.mc_flat_code.specs.Running.{part_of, label_of, EachBelow, places_of, Lower}
use Rattle.mc_flat_code.specs.Standing.{At, Holds, Chain, Opens, Keyed, Cased}
use Rattle.mc_flat_code.specs.code.Building.{Grows, IsKeyed}
use Rattle.mc_flat_code.specs.declared.code.Instr.TheVariants as I
use Rattle.mc_flat_code.proofs.Growth.{continues_same, holds_grows, keyed_grows, chain_grows, grows_then}
use Rattle.mc_flat_code.specs.declared.code.Span.{Span}
use Rattle.mc_flat_code.specs.declared.code.Branch.{Branch}
use Rattle.mc_flat_code.specs.declared.code.Code.{Code}

pub keyed_more : (code : Code) (v : ℕ) (arms : List (Label × Node)) (arm : Label × Node) (bs : List Branch) (b : Branch) (ps : List ℕ) → Keyed code v (arms_of arms) bs ps → Opens arm.0 v arm.1 → label_of code b.key ≡ Some arm.0 → Keyed code v (arms_of (arms ++ arm ∷ [])) (bs ++ b ∷ []) (ps ++ b.place ∷ [])
keyed_more code v [] arm [] b [] k o l = ((o, l, refl), tt)
keyed_more code v [] arm [] b (p ∷ ps) k o l = absurd k
keyed_more code v [] arm (d ∷ bs) b ps k o l = absurd k
keyed_more code v (a ∷ arms) arm [] b ps k o l = absurd k
keyed_more code v (a ∷ arms) arm (d ∷ bs) b [] k o l = absurd k
keyed_more code v (a ∷ arms) arm (d ∷ bs) b (p ∷ ps) k o l = (k.0, keyed_more code v arms arm bs b ps k.1 o l)

pub keyed_places : (code : Code) (v : ℕ) (arms : Arms) (bs : List Branch) (ps : List ℕ) → Keyed code v arms bs ps → places_of bs ≡ ps
keyed_places code v no_arms [] [] k = refl
keyed_places code v no_arms [] (p ∷ ps) k = absurd k
keyed_places code v no_arms (b ∷ bs) ps k = absurd k
keyed_places code v (arm_then l n arms) [] ps k = absurd k
keyed_places code v (arm_then l n arms) (b ∷ bs) [] k = absurd k
keyed_places code v (arm_then l n arms) (b ∷ bs) (p ∷ ps) k =
    λ i. k.0.2 i ∷ keyed_places code v arms bs ps k.1 i

places_length : (bs : List Branch) → length (places_of bs) ≡ length bs
places_length [] = refl
places_length (b ∷ bs) = ap suc (places_length bs)

pub keyed_length : (code : Code) (v : ℕ) (arms : Arms) (bs : List Branch) (ps : List ℕ) → Keyed code v arms bs ps → length bs ≡ length ps
keyed_length code v arms bs ps k = sym (places_length bs) ∙ ap length (keyed_places code v arms bs ps k)

-- what is put at the end of a list is a part of it
pub end_holds : {A : Type 0} (xs ys all : List A) (p : Span) → all ≡ xs ++ ys → p.start ≡ length xs → p.count ≡ length ys → Holds all p ys
end_holds xs ys all p e s n =
    record {
      within = omega (arith, ap length e, length-append xs ys);
      elements =
          ap (λ l. part_of l p) e ∙ (λ i. take (n i) (drop (s i) (xs ++ ys)))
          ∙ ap (take (length ys)) (drop-append_seam xs ys) ∙ take-length ys;
    }

pub keyed_found : (code : Code) (v : ℕ) (arms : Arms) (ps : List ℕ) (o : Option Span) (part : Span) → o ≡ Some part → IfSome o (λ p. IsKeyed code v arms ps p) → IsKeyed code v arms ps part
keyed_found code v arms ps o part e k = subst (λ x. IfSome x (λ p. IsKeyed code v arms ps p)) e k

-- a case whose branches are for arms goes on at lower places
pub case_lower : (code : Code) (v : ℕ) (arms : Arms) (ps : List ℕ) (part : Span) (other n : ℕ) → IsKeyed code v arms ps part → other < n → EachBelow n ps → Lower code n (I.Case v part other)
case_lower code v arms ps part other n k o b = (
  o,
  k.held.within,
  subst (λ l. EachBelow n (places_of l)) (sym k.held.elements) (subst (EachBelow n) (sym (keyed_places code v arms k.branches ps k.keyed)) b),
)

-- arms by a case that was put behind other growth
pub case_chosen : (first mid new : Code) (v : ℕ) (arms : Arms) (ps : List ℕ) (part : Span) (other pc : ℕ) → Grows first mid → Grows mid new → Chain first ps other → IsKeyed mid v arms ps part → At new pc (I.Case v part other) → Cased new v arms ps pc
case_chosen first mid new v arms ps part other pc g h c k at =
    record {
      part = part;
      branches = k.branches;
      other = other;
      at = at;
      held = holds_grows mid.branches.items new.branches.items h.branches part k.branches k.held;
      keyed = keyed_grows mid new h v arms k.branches ps k.keyed;
      chain = chain_grows first new (grows_then first mid new g h) ps other c;
    }

-- one more arm has its branch
pub keyed_step : (code : Code) (v : ℕ) (arms : List Arm) (places : List ℕ) (k : ℕ) (arm : Arm) (bs : List Branch) (b : Branch) → k < length arms → length places ≡ length arms → arm ≡ get_or arms k arm → b.place ≡ get_or places k 0 → Keyed code v (arms_of (map plain_arm (take k arms))) bs (take k places) → Opens (plain_arm arm).0 v (plain_arm arm).1 → label_of code b.key ≡ Some (plain_arm arm).0 → Keyed code v (arms_of (map plain_arm (take (k + 1) arms))) (bs ++ b ∷ []) (take (k + 1) places)
keyed_step code v arms places k arm bs b h n is place old o l =
    let a : map plain_arm (take (k + 1) arms) ≡ map plain_arm (take k arms) ++ plain_arm arm ∷ [] =
    ap (map plain_arm) (take_more arms k arm h ∙ ap (λ x. take k arms ++ x ∷ []) (sym is)) ∙ map_push plain_arm (take k arms) arm in
    let p : take (k + 1) places ≡ take k places ++ b.place ∷ [] =
    take_more places k 0 (omega arith) ∙ ap (λ x. take k places ++ x ∷ []) (sym place) in
    subst (λ as2. Keyed code v (arms_of as2) (bs ++ b ∷ []) (take (k + 1) places)) (sym a)
    (subst (λ ps. Keyed code v (arms_of (map plain_arm (take k arms) ++ plain_arm arm ∷ [])) (bs ++ b ∷ []) ps) (sym p)
    (keyed_more code v (map plain_arm (take k arms)) (plain_arm arm) bs b (take k places) old o l))

-- all arms have their branches
pub keyed_whole : (code : Code) (v : ℕ) (arms : List Arm) (places : List ℕ) (k : ℕ) (bs : List Branch) → k ≡ length arms → length places ≡ length arms → Keyed code v (arms_of (map plain_arm (take k arms))) bs (take k places) → Keyed code v (arms_of (map plain_arm arms)) bs places
keyed_whole code v arms places k bs e n old =
    let a : take k arms ≡ arms = ap (λ j. take j arms) e ∙ take-length arms in
    let p : take k places ≡ places = ap (λ j. take j places) (e ∙ sym n) ∙ take-length places in
    subst (λ as2. Keyed code v (arms_of (map plain_arm as2)) bs places) a (subst (λ ps. Keyed code v (arms_of (map plain_arm (take k arms))) bs ps) p old)

pub branch_grows : (code : Code) (branches : Vec Branch Global) (b : Branch) → branches.items ≡ code.branches.items ++ b ∷ [] → Grows code (record code { branches = branches })
branch_grows code branches b e =
    record {
      instrs = continues_same code.instrs.items;
      variables = continues_same code.variables.items;
      values = continues_same code.values.items;
      branches = (b ∷ [], e);
    }
