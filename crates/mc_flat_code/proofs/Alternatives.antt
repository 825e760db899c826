-- What alternatives do one after another, and which of them a case leaves out.
use Rattle.std.proofs.Common.{◌≡◌, ℕ, refl, sym, ap, ◌∙◌, List, [], ◌∷◌, Option, Some, None, Bool, true, false, nat_eq, if◌then◌else◌}
use Rattle.mc_program.specs.Values.{Val, int, char, str, con, state, same_value}
use Rattle.mc_program.specs.declared.builtin.Builtin.{Builtin}
use Rattle.mc_model.specs.EventList as L
use Rattle.mc_model.specs.EventList.{Items, of_option}
use Rattle.mc_model.specs.Outcomes.{Outcome}
use Rattle.mc_model.specs.Scheduled.{Label, for_symbol, for_constant, Node, node, Scheduled, Conj, Disj, Switch, Ite, Not, Exists, Assign, Test, Build, Take, Const, TestConst, Call, Apply, Nodes, no_nodes, node_then, Arms, no_arms, arm_then}
use Rattle.mc_model.specs.Stream.{Bindings, Calls, meet, made_items, pruned_to, stream, stream_of, stream_all, stream_any, stream_arms}
use Rattle.mc_flat_code.specs.Running.{fits}
use Rattle.mc_flat_code.specs.Standing.{Opens, OpensIn, FirstOpens, EachOpens, EachArmOpens}

-- lists one after another
abbrev pub joined : {A : Type 0} → List (Items A) → Items A
joined [] = L.End
joined (xs ∷ xss) = L.append xs (joined xss)

-- a goal whose answers come behind a test that fails has none
when_false : {A : Type 0} (b : Bool) (x : Option A) → b ≡ false → of_option (if b then x else None) ≡ L.End
when_false true x p = absurd (cc)
when_false false x p = refl

made_ends : (x f : ℕ) (ys : List ℕ) (e : Bindings) (w : Val) → fits (for_symbol f) w ≡ false → made_items x f ys e (Some w) ≡ L.End
made_ends x f ys e (int n) p = refl
made_ends x f ys e (char c) p = refl
made_ends x f ys e (str t) p = refl
made_ends x f ys e (con g vs) p = when_false (nat_eq f g) _ p
made_ends x f ys e (state t k) p = refl

made_at : (v x f : ℕ) (ys : List ℕ) (e : Bindings) (w : Val) (l : Label) → x ≡ v → l ≡ for_symbol f → e v ≡ Some w → fits l w ≡ false → made_items x f ys e (e x) ≡ L.End
made_at v x f ys e w l same is b p =
    ap (λ y. made_items x f ys e (e y)) same ∙ ap (made_items x f ys e) b
    ∙ made_ends x f ys e w (ap (λ k. fits k w) (sym is) ∙ p)

constant_at : (v x : ℕ) (c : Val) (e : Bindings) (w : Val) (l : Label) → x ≡ v → l ≡ for_constant c → e v ≡ Some w → fits l w ≡ false → of_option (meet x c e (e x)) ≡ L.End
constant_at v x c e w l same is b p =
    ap (λ y. of_option (meet x c e (e y))) same ∙ ap (λ o. of_option (meet x c e o)) b
    ∙ when_false (same_value w c) (Some e) (ap (λ k. fits k w) (sym is) ∙ p)

pruned_end : {A : Type 0} (b : Bool) (xs : Items A) → xs ≡ L.End → pruned_to b xs ≡ L.End
pruned_end true xs p = ap L.first p
pruned_end false xs p = p

module _ (outcome : Builtin → List Val → Outcome) (C : Calls) (h : ℕ) (v : ℕ) (e : Bindings) (w : Val) (b : e v ≡ Some w) (l : Label) (p : fits l w ≡ false) where
  mutual
    pub opened_ends : (n : Node) → Opens l v n → stream outcome C h n e ≡ L.End
    opened_ends (node s changes d pruned) o =
        pruned_end pruned (stream_of outcome C h s e) (opened_of_ends s o)

    opened_of_ends : (s : Scheduled) → OpensIn l v s → stream_of outcome C h s e ≡ L.End
    opened_of_ends (Conj ns) o = first_ends ns o
    opened_of_ends (Disj ns) o = each_ends ns o.1
    opened_of_ends (Switch x arms) o = each_arm_ends arms o.1
    opened_of_ends (Ite vs c t f) o = absurd o
    opened_of_ends (Not n) o = absurd o
    opened_of_ends (Exists vs n) o = opened_ends n o
    opened_of_ends (Assign x y) o = absurd o
    opened_of_ends (Test x y) o = absurd o
    opened_of_ends (Build x f ys) o = made_at v x f ys e w l o.0 o.1 b p
    opened_of_ends (Take x f ys) o = made_at v x f ys e w l o.0 o.1 b p
    opened_of_ends (Const x c) o = constant_at v x c e w l o.0 o.1 b p
    opened_of_ends (TestConst x c) o = constant_at v x c e w l o.0 o.1 b p
    opened_of_ends (Call q xs implied last) o = absurd o
    opened_of_ends (Apply op xs ys) o = absurd o

    first_ends : (ns : Nodes) → FirstOpens l v ns → stream_all outcome C h ns e ≡ L.End
    first_ends no_nodes o = absurd o
    first_ends (node_then n ns) o =
        ap (λ xs. L.bind xs (λ a. stream_all outcome C h ns a)) (opened_ends n o)

    -- alternatives of which none has an answer
    each_ends : (ns : Nodes) → EachOpens l v ns → stream_any outcome C h ns e ≡ L.End
    each_ends no_nodes o = refl
    each_ends (node_then n ns) o = λ i. L.append (opened_ends n o.0 i) (each_ends ns o.1 i)

    each_arm_ends : (arms : Arms) → EachArmOpens l v arms → stream_arms outcome C h arms e ≡ L.End
    each_arm_ends no_arms o = refl
    each_arm_ends (arm_then t n arms) o = λ i. L.append (opened_ends n o.0 i) (each_arm_ends arms o.1 i)
