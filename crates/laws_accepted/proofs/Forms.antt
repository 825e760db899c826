-- A goal's switch form opens what the goal opens.
use Rattle.std.proofs.Common.{◌≡◌, ℕ, zero, suc, List, [], ◌++◌, Option, Some, None, Bool, false, if◌then◌else◌, refl, sym, ap, ap₂, ◌∙◌}
use Rattle.mc_program.specs.Programs.{TypeTerm}
use Rattle.mc_model.specs.Scheduled.{Node, node, Scheduled, Conj, Disj, Switch, Ite, Not, Exists, Assign, Test, Build, Take, Const, TestConst, Call, Apply, Nodes, no_nodes, node_then}
use Rattle.mc_model.specs.Stream.{pruned_to}
use Rattle.mc_model.specs.Good.{System}
use Rattle.mc_source.specs.declared.det.Det.{Det}
use Rattle.mc_accepted.specs.Ordered.{Insts}
use Rattle.mc_accepted.specs.Determined.{insts_after}
use Rattle.mc_accepted.specs.Switched.{Disjunct, is_equation, openings, openings_in, openings_all, Kept, arm_of, chosen, on_chosen, grouped, formed, formed_in, formed_all, disjuncts, openings_of}
use Rattle.laws_accepted.specs.SwitchLaws.{Told, FormsKeepLists}
use Rattle.laws_accepted.proofs.Grouping.{switches_keep_lists}

module _ (S : System) (T : ℕ → TypeTerm) where
  module _ (keep : Kept) where
    grouped_opens : (k : ℕ) (b : Insts) (out : List ℕ) (ds : List Disjunct) → openings_in (grouped S T keep k b out ds) ≡ []
    grouped_opens zero b out ds = refl
    grouped_opens (suc k) b out ds = by_chosen (chosen S T out b ds)
      where
        by_chosen : (o : Option ℕ) → openings_in (on_chosen (λ out. arm_of keep (grouped S T keep k b out)) out ds o) ≡ []
        by_chosen None = refl
        by_chosen (Some x) = refl

    grouped_is_none : (k : ℕ) (b : Insts) (out : List ℕ) (ds : List Disjunct) (changes : List (ℕ × ℕ)) (d : Det) (m : Bool) → is_equation (node (grouped S T keep k b out ds) changes d m) ≡ false
    grouped_is_none zero b out ds changes d m = refl
    grouped_is_none (suc k) b out ds changes d m = by_chosen (chosen S T out b ds)
      where
        by_chosen : (o : Option ℕ) → is_equation (node (on_chosen (λ out. arm_of keep (grouped S T keep k b out)) out ds o) changes d m) ≡ false
        by_chosen None = refl
        by_chosen (Some x) = refl

  module _ (keep : (before after : Insts) → Kept) where
    equation_kept : (b : Insts) (n : Node) → is_equation (formed S T keep b n) ≡ is_equation n
    equation_kept b (node (Conj ns) changes d m) = refl
    equation_kept b (node (Disj ns) changes d m) =
        grouped_is_none (keep b (insts_after (node (Disj ns) changes d m) b)) (openings_of (disjuncts S T keep b ns)) b [] (disjuncts S T keep b ns) changes d m
    equation_kept b (node (Switch x arms) changes d m) = refl
    equation_kept b (node (Ite vs c t f) changes d m) = refl
    equation_kept b (node (Not n) changes d m) = refl
    equation_kept b (node (Exists vs n) changes d m) = refl
    equation_kept b (node (Assign x y) changes d m) = refl
    equation_kept b (node (Test x y) changes d m) = refl
    equation_kept b (node (Build x f ys) changes d m) = refl
    equation_kept b (node (Take x f ys) changes d m) = refl
    equation_kept b (node (Const x c) changes d m) = refl
    equation_kept b (node (TestConst x c) changes d m) = refl
    equation_kept b (node (Call p xs implied last) changes d m) = refl
    equation_kept b (node (Apply op xs ys) changes d m) = refl

    mutual
      pub openings_kept : (b : Insts) (n : Node) → openings (formed S T keep b n) ≡ openings n
      openings_kept b (node s changes d m) = openings_kept_in b (insts_after (node s changes d m) b) s

      openings_kept_in : (b c : Insts) (s : Scheduled) → openings_in (formed_in S T keep b c s) ≡ openings_in s
      openings_kept_in b c (Conj ns) = openings_kept_all b ns
      openings_kept_in b c (Disj ns) = grouped_opens (keep b c) (openings_of (disjuncts S T keep b ns)) b [] (disjuncts S T keep b ns)
      openings_kept_in b c (Exists vs n) = openings_kept b n
      openings_kept_in b c (Switch x arms) = refl
      openings_kept_in b c (Ite vs n t f) = refl
      openings_kept_in b c (Not n) = refl
      openings_kept_in b c (Assign x y) = refl
      openings_kept_in b c (Test x y) = refl
      openings_kept_in b c (Build x f ys) = refl
      openings_kept_in b c (Take x f ys) = refl
      openings_kept_in b c (Const x v) = refl
      openings_kept_in b c (TestConst x v) = refl
      openings_kept_in b c (Call p xs implied last) = refl
      openings_kept_in b c (Apply op xs ys) = refl

      openings_kept_all : (b : Insts) (ns : Nodes) → openings_all (formed_all S T keep b ns) ≡ openings_all ns
      openings_kept_all b no_nodes = refl
      openings_kept_all b (node_then n ns) =
          ap (λ t. if t then openings (formed S T keep b n) ++ openings_all (formed_all S T keep (insts_after n b) ns) else []) (equation_kept b n)
          ∙ ap₂ (λ os us. if is_equation n then os ++ us else []) (openings_kept b n) (openings_kept_all (insts_after n b) ns)

    pub told : (b : Insts) (ns : Nodes) → Told (disjuncts S T keep b ns)
    told b no_nodes = tt
    told b (node_then n ns) = (sym (openings_kept b n), told b ns)

pub forms_keep_lists : FormsKeepLists
forms_keep_lists outcome C h e S T keep b ns changes d m i n =
    ap (pruned_to m)
    (switches_keep_lists outcome C h e S T (keep b (insts_after (node (Disj ns) changes d m) b)) b (openings_of (disjuncts S T keep b ns)) [] (disjuncts S T keep b ns) (told S T keep b ns) i n)
