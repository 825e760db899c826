-- A goal and its switch form run alike.
use Rattle.std.proofs.Common.{◌≡◌, ℕ, List, [], refl, ap, ap₂, ◌∙◌}
use Rattle.mc_program.specs.Values.{Val}
use Rattle.mc_program.specs.Programs.{TypeTerm}
use Rattle.mc_program.specs.declared.builtin.Builtin.{Builtin}
use Rattle.mc_model.specs.EventList.{Items, End, Stuck, Stopped, Answer, Called, Wrote, Read, append, bind, choose, negate, Each}
use Rattle.mc_model.specs.Outcomes.{Outcome}
use Rattle.mc_model.specs.Scheduled.{Node, node, Scheduled, Conj, Disj, Switch, Ite, Not, Exists, Assign, Test, Build, Take, Const, TestConst, Call, Apply, Nodes, no_nodes, node_then}
use Rattle.mc_model.specs.Stream.{Bindings, Calls, pruned_to, stream, stream_of, stream_all, stream_any}
use Rattle.mc_model.specs.Good.{System}
use Rattle.mc_accepted.specs.Ordered.{Insts}
use Rattle.mc_accepted.specs.Determined.{insts_after}
use Rattle.mc_accepted.specs.Switched.{Kept, goals_of, openings_of, formed, formed_in, formed_all, disjuncts}
use Rattle.laws_accepted.specs.SwitchLaws.{Fit, FitIn, FitAll, FitEach, GoalsKeepLists}
use Rattle.laws_accepted.proofs.Grouping.{switches_keep_lists}
use Rattle.laws_accepted.proofs.Forms.{told}

bind_same : (f g : Bindings → Items Bindings) (xs : Items Bindings) → Each (λ a. f a ≡ g a) xs → bind xs f ≡ bind xs g
bind_same f g End h = refl
bind_same f g Stuck h = refl
bind_same f g (Stopped w) h = refl
bind_same f g (Answer a xs) h = ap₂ append h.0 (bind_same f g xs h.1)
bind_same f g (Called c xs) h = ap (Called c) (bind_same f g xs h)
bind_same f g (Wrote t xs) h = ap (Wrote t) (bind_same f g xs h)
bind_same f g (Read k xs) h = ap (Read k) (bind_same f g xs h)

choose_same : (f g : Bindings → Items Bindings) (xs ys : Items Bindings) → Each (λ a. f a ≡ g a) xs → choose xs f ys ≡ choose xs g ys
choose_same f g End ys h = refl
choose_same f g Stuck ys h = refl
choose_same f g (Stopped w) ys h = refl
choose_same f g (Answer a xs) ys h = ap₂ append h.0 (bind_same f g xs h.1)
choose_same f g (Called c xs) ys h = ap (Called c) (choose_same f g xs ys h)
choose_same f g (Wrote t xs) ys h = ap (Wrote t) (choose_same f g xs ys h)
choose_same f g (Read k xs) ys h = ap (Read k) (choose_same f g xs ys h)

each_map : (P Q : Bindings → Type 0) → ((a : Bindings) → P a → Q a) → (xs : Items Bindings) → Each P xs → Each Q xs
each_map P Q f End h = tt
each_map P Q f Stuck h = absurd h
each_map P Q f (Stopped w) h = tt
each_map P Q f (Answer a xs) h = (f a h.0, each_map P Q f xs h.1)
each_map P Q f (Called c xs) h = each_map P Q f xs h
each_map P Q f (Wrote t xs) h = each_map P Q f xs h
each_map P Q f (Read k xs) h = each_map P Q f xs h

module _ (outcome : Builtin → List Val → Outcome) (C : Calls) (h : ℕ) (S : System) (T : ℕ → TypeTerm) (keep : (before after : Insts) → Kept) where
  mutual
    alike : (b : Insts) (n : Node) (e : Bindings) → Fit outcome C h S T keep b n e → stream outcome C h (formed S T keep b n) e ≡ stream outcome C h n e
    alike b (node s changes d m) e f = ap (pruned_to m) (alike_in b (insts_after (node s changes d m) b) s e f)

    alike_in : (b c : Insts) (s : Scheduled) (e : Bindings) → FitIn outcome C h S T keep b s e → stream_of outcome C h (formed_in S T keep b c s) e ≡ stream_of outcome C h s e
    alike_in b c (Conj ns) e f = alike_all b ns e f
    alike_in b c (Disj ns) e f =
        switches_keep_lists outcome C h e S T (keep b c) b (openings_of (disjuncts S T keep b ns)) [] (disjuncts S T keep b ns) (told S T keep b ns) f.0 f.1
        ∙ alike_each b ns e f.2
    alike_in b c (Switch x arms) e f = refl
    alike_in b c (Ite vs n t u) e f =
        ap₂ (λ xs ys. choose xs (λ a. stream outcome C h (formed S T keep (insts_after n b) t) a) ys) (alike b n e f.0) (alike b u e f.2)
        ∙ choose_same (λ a. stream outcome C h (formed S T keep (insts_after n b) t) a) (λ a. stream outcome C h t a) (stream outcome C h n e) (stream outcome C h u e)
        (each_map (λ a. Fit outcome C h S T keep (insts_after n b) t a) (λ a. stream outcome C h (formed S T keep (insts_after n b) t) a ≡ stream outcome C h t a) (λ a g. alike (insts_after n b) t a g) (stream outcome C h n e) f.1)
    alike_in b c (Not n) e f = ap (negate e) (alike b n e f)
    alike_in b c (Exists vs n) e f = alike b n e f
    alike_in b c (Assign x y) e f = refl
    alike_in b c (Test x y) e f = refl
    alike_in b c (Build x s ys) e f = refl
    alike_in b c (Take x s ys) e f = refl
    alike_in b c (Const x v) e f = refl
    alike_in b c (TestConst x v) e f = refl
    alike_in b c (Call p xs implied last) e f = refl
    alike_in b c (Apply op xs ys) e f = refl

    alike_all : (b : Insts) (ns : Nodes) (e : Bindings) → FitAll outcome C h S T keep b ns e → stream_all outcome C h (formed_all S T keep b ns) e ≡ stream_all outcome C h ns e
    alike_all b no_nodes e f = refl
    alike_all b (node_then n ns) e f =
        ap (λ xs. bind xs (λ a. stream_all outcome C h (formed_all S T keep (insts_after n b) ns) a)) (alike b n e f.0)
        ∙ bind_same (λ a. stream_all outcome C h (formed_all S T keep (insts_after n b) ns) a) (λ a. stream_all outcome C h ns a) (stream outcome C h n e)
        (each_map (λ a. FitAll outcome C h S T keep (insts_after n b) ns a) (λ a. stream_all outcome C h (formed_all S T keep (insts_after n b) ns) a ≡ stream_all outcome C h ns a) (λ a g. alike_all (insts_after n b) ns a g) (stream outcome C h n e) f.1)

    alike_each : (b : Insts) (ns : Nodes) (e : Bindings) → FitEach outcome C h S T keep b ns e → stream_any outcome C h (goals_of (disjuncts S T keep b ns)) e ≡ stream_any outcome C h ns e
    alike_each b no_nodes e f = refl
    alike_each b (node_then n ns) e f = ap₂ append (alike b n e f.0) (alike_each b ns e f.1)

pub goals_keep_lists : GoalsKeepLists
goals_keep_lists outcome C h e S T keep b n f = alike outcome C h S T keep b n e f
