-- A query's text is one goal at most, or it breaks one rule.
use Rattle.std.proofs.Common.{◌≡◌, inl, inr, ℕ, arith, List, [], ◌∷◌, Option, Some, None, refl, sym, ap, ◌∙◌, subst}
use Rattle.mc_term_data.specs.Plain.{PlainTerm, plain_term}
use Rattle.mc_term_data.specs.declared.term.Term.{Term}
use Rattle.mc_source.specs.declared.rule.Broken.{Broken}
use Rattle.mc_source.specs.declared.rule.Rule.{Rule}
use Rattle.mc_term_parser.specs.Tree.{term}
use Rattle.mc_term_parser.specs.Laws.{AtMostOne}
use Rattle.mc_terms.specs.Answers.{IsOver}
use Rattle.mc_decl_syntax.specs.declared.entry.ItemsFault.TheVariants as F
use Rattle.mc_items.specs.Verdicts.{PlainVerdict, breaks}
use Rattle.mc_items.specs.Files.{place, IsUnread, IsTooLong}
use Rattle.mc_items.specs.Queries.{query_verdict, ReadsAs, IsGoal, Breaks, empty, unread, followed, refused, IsNoGoal, IsQueryRefusal}
use Rattle.mc_items.proofs.Unique.{same_tree, read_not_refused, read_not_over, refused_not_over, not_memory, one_item}

-- what a verdict says of a rule that is broken
abbrev SameRule : Rule → Rule → List ℕ → List ℕ → ℕ → ℕ → Type 0
SameRule r s w v line row = (r ≡ s) × (w ≡ v) × (line ≡ row)

same_told : (p q : Rule × List ℕ) → Some p ≡ Some q → p ≡ q
same_told p q e = cc

same_parts : (o : Option (Rule × List ℕ)) (p q : Rule × List ℕ) → o ≡ Some p → o ≡ Some q → (p.0 ≡ q.0) × (p.1 ≡ q.1)
same_parts o p q e f = let same = same_told p q (sym e ∙ f) in (ap (λ t. t.0) same, ap (λ t. t.1) same)

none_told : (o : Option (Rule × List ℕ)) (p : Rule × List ℕ) → o ≡ None → o ≡ Some p → ⊥
none_told o p e f = let no : None ≡ Some p = sym e ∙ f in cc

same_breaks : (r s : Rule) (w v : List ℕ) → breaks r w ≡ breaks s v → (r ≡ s) × (w ≡ v)
same_breaks r s w v e = let rule : r ≡ s = cc in let what : w ≡ v = cc in (rule, what)

module _ (at_most_one : AtMostOne) (text : List ℕ) where
  -- a text reads as one term, with one place behind it
  same_term : (t u : PlainTerm) (next stop : ℕ) → ReadsAs text t next → ReadsAs text u stop → (t ≡ u) × (next ≡ stop)
  same_term t u next stop a b =
      let same = same_tree at_most_one text 0 a.0 b.0 next stop a.1 b.1 in
      (a.4 ∙ ap term same.0 ∙ sym b.4, same.1)

  -- where it reads as one, its first item is read
  read_not_unread : (t : PlainTerm) (v : PlainVerdict) (next line stop : ℕ) → ReadsAs text t next → IsUnread text 0 v line stop → ⊥
  read_not_unread t v next line stop a u = read_not_refused at_most_one text 0 a.0 next a.1 a.2 a.3 u.kind line stop (not_memory at_most_one text 0 u) u.refused

  -- and there is an item
  read_not_empty : (t : PlainTerm) (next : ℕ) → ReadsAs text t next → IsOver text 0 → ⊥
  read_not_empty t next a o = read_not_over at_most_one text 0 a.0 next a.1 o

  -- as there is where the first one isn't read
  unread_not_empty : (v : PlainVerdict) (line next : ℕ) → IsUnread text 0 v line next → IsOver text 0 → ⊥
  unread_not_empty v line next u o = refused_not_over at_most_one text 0 u.kind line next (not_memory at_most_one text 0 u) u.refused o

  -- nothing stands behind it, or something does
  followed_not_alone : (t u : PlainTerm) (next stop : ℕ) → ReadsAs text t next → (IsOver text next → ⊥) → ReadsAs text u stop → IsOver text stop → ⊥
  followed_not_alone t u next stop a more b alone = more (subst (λ place. IsOver text place) (sym (same_term t u next stop a b).1) alone)

  one_rule : (r s : Rule) (w v : List ℕ) (line row : ℕ) → Breaks text r w line → Breaks text s v row → SameRule r s w v line row
  one_rule _ _ _ _ _ _ (empty o) (empty p) = (refl, refl, refl)
  one_rule _ s _ v _ row (empty o) (unread {next = stop} u) = absurd (unread_not_empty (breaks s v) row stop u o)
  one_rule _ _ _ _ _ _ (empty o) (followed {t = u} {next = stop} b more) = absurd (read_not_empty u stop b o)
  one_rule _ s _ v _ _ (empty o) (refused {t = u} {next = stop} b alone e) = absurd (read_not_empty u stop b o)
  one_rule r _ w _ line _ (unread {next = next} u) (empty p) = absurd (unread_not_empty (breaks r w) line next u p)
  one_rule r s w v line row (unread {next = next} u) (unread {next = stop} x) =
      let same = one_item at_most_one text 0 (breaks r w) (breaks s v) line row next stop (inr u) (inr x) in
      let parts = same_breaks r s w v same.0 in
      (parts.0, parts.1, same.1)
  one_rule r _ w _ line _ (unread {next = next} x) (followed {t = u} {next = stop} b more) = absurd (read_not_unread u (breaks r w) stop line next b x)
  one_rule r s w v line _ (unread {next = next} x) (refused {t = u} {next = stop} b alone e) = absurd (read_not_unread u (breaks r w) stop line next b x)
  one_rule _ _ _ _ _ _ (followed {t = t} {next = next} a more) (empty p) = absurd (read_not_empty t next a p)
  one_rule _ s _ v _ row (followed {t = t} {next = next} a more) (unread {next = stop} x) = absurd (read_not_unread t (breaks s v) next row stop a x)
  one_rule _ _ _ _ _ _ (followed a more) (followed b others) = (refl, refl, refl)
  one_rule _ s _ v _ _ (followed {t = t} {next = next} a more) (refused {t = u} {next = stop} b alone e) = absurd (followed_not_alone t u next stop a more b alone)
  one_rule r _ w _ _ _ (refused {t = t} {next = next} a alone e) (empty p) = absurd (read_not_empty t next a p)
  one_rule r s w v _ row (refused {t = t} {next = next} a alone e) (unread {next = stop} x) = absurd (read_not_unread t (breaks s v) next row stop a x)
  one_rule r _ w _ _ _ (refused {t = t} {next = next} a alone e) (followed {t = u} {next = stop} b more) = absurd (followed_not_alone u t stop next b more a alone)
  one_rule r s w v _ _ (refused {t = t} {next = next} a alone e) (refused {t = u} {next = stop} b others f) =
      let parts = same_parts (query_verdict t) (r, w) (s, v) e (ap query_verdict (same_term t u next stop a b).0 ∙ f) in
      (parts.0, parts.1, refl)

  -- a goal breaks no rule
  goal_breaks_none : (g : Term) (r : Rule) (w : List ℕ) (line : ℕ) → IsGoal text g → Breaks text r w line → ⊥
  goal_breaks_none g _ _ _ a (empty o) = read_not_empty (plain_term g) a.next a.reads o
  goal_breaks_none g r w line a (unread {next = stop} x) = read_not_unread (plain_term g) (breaks r w) a.next line stop a.reads x
  goal_breaks_none g _ _ _ a (followed {t = u} {next = stop} b more) = followed_not_alone u (plain_term g) stop a.next b more a.reads a.alone
  goal_breaks_none g r w _ a (refused {t = u} {next = stop} b alone e) =
      none_told (query_verdict (plain_term g)) (r, w) a.sound (ap query_verdict (same_term (plain_term g) u a.next stop a.reads b).0 ∙ e)

  pub one_goal : (g h : Term) → IsGoal text g → IsGoal text h → plain_term g ≡ plain_term h
  one_goal g h a b = (same_term (plain_term g) (plain_term h) a.next b.next a.reads b.reads).0

  pub goal_not_broken : (file : ℕ) (g : Term) (bs : List Broken) → IsGoal text g → IsQueryRefusal file text (F.Broken bs) → ⊥
  goal_not_broken file g bs a (inl r) = let short = a.short in let long = r.long in omega arith
  goal_not_broken file g bs a (inr r) = goal_breaks_none g r.rule r.what r.line a r.why

  -- a text is not both too long and read as no goal
  long_not_read : (file : ℕ) (bs cs : List Broken) → IsTooLong file text bs → IsNoGoal file text cs → ⊥
  long_not_read file bs cs r s = let long = r.long in let short = s.short in omega arith

  abbrev said : ℕ → Rule → List ℕ → ℕ → List Broken
  said file rule what line = record { rule = rule; at = place file line; what = what } ∷ []

  pub one_query_refusal : (file : ℕ) (bs cs : List Broken) → IsQueryRefusal file text (F.Broken bs) → IsQueryRefusal file text (F.Broken cs) → bs ≡ cs
  one_query_refusal file bs cs (inl r) (inl s) = r.is ∙ sym s.is
  one_query_refusal file bs cs (inl r) (inr s) = absurd (long_not_read file bs cs r s)
  one_query_refusal file bs cs (inr r) (inl s) = absurd (long_not_read file cs bs s r)
  one_query_refusal file bs cs (inr r) (inr s) =
      let same = one_rule r.rule s.rule r.what s.what r.line s.line r.why s.why in
      r.is ∙ (λ k. said file (same.0 k) (same.1 k) (same.2 k)) ∙ sym s.is
