-- Joining two lists of cases, case by case.
use Rattle.std.proofs.Common.{◌≡◌, ℕ, suc, ◌+◌, ◌<◌, ◌≤◌, Bool, true, false, cond, nat_eq, List, [], ◌∷◌, ◌++◌, length, get_or, Option, Some, None, refl, sym, ap, ◌∙◌, subst, arith, length-append}
use Rattle.std.proofs.lemmas.Bool.{eqb-true}
use Rattle.std.proofs.lemmas.List.{get_or_append_left, get_or_push}
use Rattle.mc_insts.specs.declared.graph.Case.{Case}
use Rattle.mc_insts.specs.code.Cases.{find_case, Rising}
use Rattle.mc_insts.specs.code.Joins.{Join, Ahead, Behind, Joining}
use Rattle.mc_insts.proofs.Found.{find_none, find_at, rising_at, get_any, by_order, here}

push_other : (out : List Case) (c : Case) (f : ℕ) → (c.functor ≡ f → ⊥) → find_case (out ++ c ∷ []) f ≡ find_case out f
push_other [] c f n = at_end (nat_eq c.functor f) refl
  where
    at_end : (t : Bool) → nat_eq c.functor f ≡ t → cond t (Some c.args) None ≡ None
    at_end true e = absurd (n (eqb-true c.functor f e))
    at_end false e = refl
push_other (o ∷ out) c f n = ap (λ x. cond (nat_eq o.functor f) (Some o.args) x) (push_other out c f n)

push_same : (out : List Case) (c : Case) → find_case out c.functor ≡ None → find_case (out ++ c ∷ []) c.functor ≡ Some c.args
push_same [] c h = here c.functor c.functor c.args None (nat_eq c.functor c.functor) refl refl
push_same (o ∷ out) c h = later (push_same out c) (nat_eq o.functor c.functor) refl h
  where
    later : (find_case out c.functor ≡ None → find_case (out ++ c ∷ []) c.functor ≡ Some c.args) → (t : Bool) → nat_eq o.functor c.functor ≡ t → cond t (Some o.args) (find_case out c.functor) ≡ None → cond t (Some o.args) (find_case (out ++ c ∷ []) c.functor) ≡ Some c.args
    later k true e g = cc
    later k false e g = k g

rising_push : (out : List Case) (c : Case) → Rising out → Behind out (length out) c.functor → Rising (out ++ c ∷ [])
rising_push [] c r b = tt
rising_push (o ∷ []) c r b = (b 0 o (omega arith), tt)
rising_push (o ∷ p ∷ out) c r b = (r.0, rising_push (p ∷ out) c r.1 (λ k d h. b (suc k) d (omega arith)))

behind_none : (cs : List Case) (f : ℕ) → Behind cs (length cs) f → find_case cs f ≡ None
behind_none cs f b = find_none cs f (λ k d h e. let x : (get_or cs k d).functor < f = b k d h in absurd (omega arith))

-- a functor between two neighbours isn't there
gap_none : (cs : List Case) (n f : ℕ) → Behind cs n f → Ahead cs n f → find_case cs f ≡ None
gap_none cs n f b a =
    find_none cs f
    (λ k d h e. by_order k n
    (λ x. let y : (get_or cs k d).functor < f = b k d x in omega arith)
    (λ x. let y : f < (get_or cs k d).functor = a k d (omega arith) h in omega arith)
    (λ x. let y : f < (get_or cs k d).functor = a k d (omega arith) h in omega arith))

behind_push : (out : List Case) (c : Case) (f : ℕ) → Behind out (length out) c.functor → c.functor < f → Behind (out ++ c ∷ []) (length (out ++ c ∷ [])) f
behind_push out c f b lt k d h =
    let l : length (out ++ c ∷ []) ≡ length out + 1 = length-append out (c ∷ []) in
    by_order k (length out)
    (λ x. let y : (get_or out k d).functor < c.functor = b k d x in let z : (get_or (out ++ c ∷ []) k d).functor ≡ (get_or out k d).functor = ap (λ (w : Case). w.functor) (get_or_append_left out (c ∷ []) d k x) in omega arith)
    (λ x. let z : (get_or (out ++ c ∷ []) k d).functor ≡ c.functor = ap (λ (w : Case). w.functor) (get_or_push out c d k (sym x)) in omega arith)
    (λ x. absurd (omega arith))

behind_along : (cs : List Case) (n f g : ℕ) → Behind cs n f → f ≤ g → Behind cs n g
behind_along cs n f g b le k d h = let x : (get_or cs k d).functor < f = b k d h in omega arith

behind_more : (cs : List Case) (n g : ℕ) (c : Case) → Rising cs → n < length cs → c ≡ get_or cs n c → c.functor < g → Behind cs (n + 1) g
behind_more cs n g c r w e lt k d h =
    by_order k n
    (λ x. let y : (get_or cs k d).functor < (get_or cs n c).functor = rising_at cs r k n d c x w in let z : c.functor ≡ (get_or cs n c).functor = ap (λ (v : Case). v.functor) e in omega arith)
    (λ x. let z : (get_or cs k d).functor ≡ c.functor = ap (λ (v : Case). v.functor) (ap (λ m. get_or cs m d) x ∙ get_any cs n d c w ∙ sym e) in omega arith)
    (λ x. absurd (omega arith))

ahead_at : (cs : List Case) (n f : ℕ) (c : Case) → Rising cs → n < length cs → c ≡ get_or cs n c → f < c.functor → Ahead cs n f
ahead_at cs n f c r w e lt k d le h =
    by_order k n
    (λ x. absurd (omega arith))
    (λ x. let z : (get_or cs k d).functor ≡ c.functor = ap (λ (v : Case). v.functor) (ap (λ m. get_or cs m d) x ∙ get_any cs n d c w ∙ sym e) in omega arith)
    (λ x. let y : (get_or cs n c).functor < (get_or cs k d).functor = rising_at cs r n k c d x h in let z : c.functor ≡ (get_or cs n c).functor = ap (λ (v : Case). v.functor) e in omega arith)

ahead_end : (cs : List Case) (n f : ℕ) → length cs ≤ n → Ahead cs n f
ahead_end cs n f le k d h g = absurd (omega arith)

next_above : (cs : List Case) (n : ℕ) (c d : Case) → Rising cs → n < length cs → c ≡ get_or cs n c → n + 1 < length cs → c.functor < (get_or cs (n + 1) d).functor
next_above cs n c d r w e h = let y : (get_or cs n c).functor < (get_or cs (n + 1) d).functor = rising_at cs r n (n + 1) c d (omega arith) h in let z : c.functor ≡ (get_or cs n c).functor = ap (λ (v : Case). v.functor) e in omega arith

functor_at_place : (cs : List Case) (n : ℕ) (c d : Case) → n < length cs → c ≡ get_or cs n c → (get_or cs n d).functor ≡ c.functor
functor_at_place cs n c d w e = ap (λ (v : Case). v.functor) (get_any cs n d c w ∙ sym e)

found_place : (cs : List Case) (n : ℕ) (c : Case) → Rising cs → n < length cs → c ≡ get_or cs n c → find_case cs c.functor ≡ Some c.args
found_place cs n c r w e = find_at cs c.functor r n c w (ap (λ (v : Case). v.functor) (sym e)) ∙ ap (λ (v : Case). Some v.args) (sym e)

pub start : (R : ℕ → List ℕ → List ℕ → List ℕ → Type 0) (lows highs : List Case) → Joining R lows highs 0 0 []
start R lows highs = record {
  rising = tt;
  out_low = λ d h k e lt. absurd (omega arith);
  out_high = λ d h k e lt. absurd (omega arith);
  low_high = λ d h k e lt. absurd (omega arith);
  high_low = λ d h k e lt. absurd (omega arith);
  joined = λ f l h.
      let x = find_none lows f (λ k d w e. let y : f < (get_or lows k d).functor = l k d (omega arith) w in omega arith) in
      let z = find_none highs f (λ k d w e. let y : f < (get_or highs k d).functor = h k d (omega arith) w in omega arith) in
      subst (λ o. Join (R f) o (find_case highs f) None) (sym x) (subst (λ o. Join (R f) None o None) (sym z) refl);
}

-- the two lists changed for one another
abbrev pub Flip : (ℕ → List ℕ → List ℕ → List ℕ → Type 0) → ℕ → List ℕ → List ℕ → List ℕ → Type 0
Flip R f xs ys zs = R f ys xs zs

join_flip : (R : List ℕ → List ℕ → List ℕ → Type 0) (l h o : Option (List ℕ)) → Join R l h o → Join (λ xs ys zs. R ys xs zs) h l o
join_flip R None None o j = j
join_flip R (Some xs) None o j = j
join_flip R None (Some ys) o j = j
join_flip R (Some xs) (Some ys) o j = j

pub flip : (R : ℕ → List ℕ → List ℕ → List ℕ → Type 0) (lows highs : List Case) (a b : ℕ) (out : List Case) → Joining R lows highs a b out → Joining (Flip R) highs lows b a out
flip R lows highs a b out j = record {
  rising = j.rising;
  out_low = j.out_high;
  out_high = j.out_low;
  low_high = j.high_low;
  high_low = j.low_high;
  joined = λ f l h. join_flip (R f) (find_case lows f) (find_case highs f) (find_case out f) (j.joined f h l);
}

join_map : (R S : List ℕ → List ℕ → List ℕ → Type 0) → ((xs ys zs : List ℕ) → R xs ys zs → S xs ys zs) → (l h o : Option (List ℕ)) → Join R l h o → Join S l h o
join_map R S g None None o j = j
join_map R S g (Some xs) None o j = j
join_map R S g None (Some ys) o j = j
join_map R S g (Some xs) (Some ys) o j = (j.0, (j.1.0, g xs ys j.0 j.1.1))

pub joining_map : (R S : ℕ → List ℕ → List ℕ → List ℕ → Type 0) → ((f : ℕ) (xs ys zs : List ℕ) → R f xs ys zs → S f xs ys zs) → (lows highs : List Case) (a b : ℕ) (out : List Case) → Joining R lows highs a b out → Joining S lows highs a b out
joining_map R S g lows highs a b out j = record {
  rising = j.rising;
  out_low = j.out_low;
  out_high = j.out_high;
  low_high = j.low_high;
  high_low = j.high_low;
  joined = λ f l h. join_map (R f) (S f) (g f) (find_case lows f) (find_case highs f) (find_case out f) (j.joined f l h);
}

module _ (R : ℕ → List ℕ → List ℕ → List ℕ → Type 0) (lows highs : List Case) (low_rises : Rising lows) (high_rises : Rising highs) (a b : ℕ) (out : List Case) (j : Joining R lows highs a b out) where
  -- a case that the first list alone has
  pub take_low : (c e : Case) → a < length lows → c ≡ get_or lows a c → e.functor ≡ c.functor → e.args ≡ c.args → ((d : Case) → b < length highs → c.functor < (get_or highs b d).functor) → Joining R lows highs (a + 1) b (out ++ e ∷ [])
  take_low c e w is same args before =
      let gap : Behind out (length out) c.functor = λ k d h. subst (λ n. (get_or out k d).functor < n) (functor_at_place lows a c c w is) (j.out_low c w k d h) in
      let gap_e : Behind out (length out) e.functor = subst (λ n. Behind out (length out) n) (sym same) gap in
      let high_behind : Behind highs b c.functor = λ k d h. subst (λ n. (get_or highs k d).functor < n) (functor_at_place lows a c c w is) (j.high_low c w k d h) in
      let high_ahead : Ahead highs b c.functor = λ k d le h. by_order k b (λ x. absurd (omega arith)) (λ x. subst (λ m. c.functor < (get_or highs m d).functor) (sym x) (before d (omega arith)))
      (λ x. let y : (get_or highs b d).functor < (get_or highs k d).functor = rising_at highs high_rises b k d d x h in let z : c.functor < (get_or highs b d).functor = before d (omega arith) in omega arith) in
      record {
        rising = rising_push out e j.rising gap_e;
        out_low = λ d h. behind_push out e (get_or lows (a + 1) d).functor gap_e (subst (λ n. n < (get_or lows (a + 1) d).functor) (sym same) (next_above lows a c d low_rises w is h));
        out_high = λ d h. behind_push out e (get_or highs b d).functor gap_e (subst (λ n. n < (get_or highs b d).functor) (sym same) (before d h));
        low_high = λ d h. behind_more lows a (get_or highs b d).functor c low_rises w is (before d h);
        high_low = λ d h. behind_along highs b c.functor (get_or lows (a + 1) d).functor high_behind (let y : c.functor < (get_or lows (a + 1) d).functor = next_above lows a c d low_rises w is h in omega arith);
        joined = λ f l h. by_order f c.functor
            (λ x. subst (λ o. Join (R f) (find_case lows f) (find_case highs f) o) (sym (push_other out e f (λ q. absurd (omega arith)))) (j.joined f (ahead_at lows a f c low_rises w is x) h))
            (λ x.
            let p : find_case lows f ≡ Some c.args = ap (find_case lows) x ∙ found_place lows a c low_rises w is in
            let q : find_case highs f ≡ None = ap (find_case highs) x ∙ gap_none highs b c.functor high_behind high_ahead in
            let r : find_case (out ++ e ∷ []) f ≡ Some c.args = ap (find_case (out ++ e ∷ [])) (x ∙ sym same) ∙ push_same out e (behind_none out e.functor gap_e) ∙ ap Some args in
            subst (λ o. Join (R f) o (find_case highs f) (find_case (out ++ e ∷ []) f)) (sym p) (subst (λ o. Join (R f) (Some c.args) o (find_case (out ++ e ∷ []) f)) (sym q) r))
            (λ x.
            let p : find_case lows f ≡ None = gap_none lows (a + 1) f (behind_more lows a f c low_rises w is x) l in
            let q : find_case highs f ≡ None = gap_none highs b f (behind_along highs b c.functor f high_behind (omega arith)) h in
            let r : find_case (out ++ e ∷ []) f ≡ None = push_other out e f (λ y. absurd (omega arith)) ∙ behind_none out f (behind_along out (length out) c.functor f gap (omega arith)) in
            subst (λ o. Join (R f) o (find_case highs f) (find_case (out ++ e ∷ []) f)) (sym p) (subst (λ o. Join (R f) None o (find_case (out ++ e ∷ []) f)) (sym q) r));
      }

  -- a case that both lists have
  pub take_both : (c d e : Case) → a < length lows → c ≡ get_or lows a c → b < length highs → d ≡ get_or highs b d → d.functor ≡ c.functor → e.functor ≡ c.functor → R c.functor c.args d.args e.args → Joining R lows highs (a + 1) (b + 1) (out ++ e ∷ [])
  take_both c d e w is v it equal same goes =
      let gap : Behind out (length out) c.functor = λ k x h. subst (λ n. (get_or out k x).functor < n) (functor_at_place lows a c c w is) (j.out_low c w k x h) in
      let gap_e : Behind out (length out) e.functor = subst (λ n. Behind out (length out) n) (sym same) gap in
      record {
        rising = rising_push out e j.rising gap_e;
        out_low = λ x h. behind_push out e (get_or lows (a + 1) x).functor gap_e (subst (λ n. n < (get_or lows (a + 1) x).functor) (sym same) (next_above lows a c x low_rises w is h));
        out_high = λ x h. behind_push out e (get_or highs (b + 1) x).functor gap_e (subst (λ n. n < (get_or highs (b + 1) x).functor) (equal ∙ sym same) (next_above highs b d x high_rises v it h));
        low_high = λ x h. behind_more lows a (get_or highs (b + 1) x).functor c low_rises w is (subst (λ n. n < (get_or highs (b + 1) x).functor) equal (next_above highs b d x high_rises v it h));
        high_low = λ x h. behind_more highs b (get_or lows (a + 1) x).functor d high_rises v it (subst (λ n. n < (get_or lows (a + 1) x).functor) (sym equal) (next_above lows a c x low_rises w is h));
        joined = λ f l h. by_order f c.functor
            (λ x. subst (λ o. Join (R f) (find_case lows f) (find_case highs f) o) (sym (push_other out e f (λ q. absurd (omega arith)))) (j.joined f (ahead_at lows a f c low_rises w is x) (ahead_at highs b f d high_rises v it (omega arith))))
            (λ x.
            let p : find_case lows f ≡ Some c.args = ap (find_case lows) x ∙ found_place lows a c low_rises w is in
            let q : find_case highs f ≡ Some d.args = ap (find_case highs) (x ∙ sym equal) ∙ found_place highs b d high_rises v it in
            let r : find_case (out ++ e ∷ []) f ≡ Some e.args = ap (find_case (out ++ e ∷ [])) (x ∙ sym same) ∙ push_same out e (behind_none out e.functor gap_e) in
            subst (λ o. Join (R f) o (find_case highs f) (find_case (out ++ e ∷ []) f)) (sym p) (subst (λ o. Join (R f) (Some c.args) o (find_case (out ++ e ∷ []) f)) (sym q) (e.args, (r, subst (λ n. R n c.args d.args e.args) (sym x) goes))))
            (λ x.
            let p : find_case lows f ≡ None = gap_none lows (a + 1) f (behind_more lows a f c low_rises w is x) l in
            let q : find_case highs f ≡ None = gap_none highs (b + 1) f (behind_more highs b f d high_rises v it (omega arith)) h in
            let r : find_case (out ++ e ∷ []) f ≡ None = push_other out e f (λ y. absurd (omega arith)) ∙ behind_none out f (behind_along out (length out) c.functor f gap (omega arith)) in
            subst (λ o. Join (R f) o (find_case highs f) (find_case (out ++ e ∷ []) f)) (sym p) (subst (λ o. Join (R f) None o (find_case (out ++ e ∷ []) f)) (sym q) r));
      }

  -- both lists are at their ends
  pub finished : length lows ≤ a → length highs ≤ b → (f : ℕ) → Join (R f) (find_case lows f) (find_case highs f) (find_case out f)
  finished x y f = j.joined f (ahead_end lows a f x) (ahead_end highs b f y)

-- a case that the second list alone has
pub take_high : (R : ℕ → List ℕ → List ℕ → List ℕ → Type 0) (lows highs : List Case) → Rising lows → Rising highs → (a b : ℕ) (out : List Case) → Joining R lows highs a b out
    → (c e : Case) → b < length highs → c ≡ get_or highs b c → e.functor ≡ c.functor → e.args ≡ c.args → ((d : Case) → a < length lows → c.functor < (get_or lows a d).functor) → Joining R lows highs a (b + 1) (out ++ e ∷ [])
take_high R lows highs r s a b out j c e w is same args before =
    flip (Flip R) highs lows (b + 1) a (out ++ e ∷ []) (take_low (Flip R) highs lows s r b a out (flip R lows highs a b out j) c e w is same args before)
