-- What is judged, one item behind another.
use Rattle.std.proofs.Common.{◌≡◌, ℕ, List, [], ◌∷◌, ◌++◌, Some, None, refl, sym, ap, subst, ◌∙◌}
use Rattle.std.specs.Prelude.{Option}
use Rattle.std.proofs.lemmas.List.{append-nil, append_assoc}
use Rattle.mc_source.specs.declared.rule.Broken.{Broken}
use Rattle.mc_source.specs.Rules.{broken_at}
use Rattle.mc_program.specs.Programs.{TypeTerm}
use Rattle.mc_accepted.specs.Resolving.{Unresolved_clause}
use Rattle.mc_unresolved.specs.Unresolved.{plain_unresolved_clause}
use Rattle.mc_unresolved.specs.declared.clause.UnresolvedClause.{UnresolvedClause}
use Rattle.mc_names.specs.Linked.{Linked}
use Rattle.mc_declarations.specs.Declarations.{parameter_counts}
use Rattle.mc_type_phase.specs.Typing.{TypingSays}
use Rattle.mc_type_phase.specs.Items.{Item}
use Rattle.mc_type_phase.specs.Judging.{source_of, AreFaults, AreTyped, typed_clauses, IsJudged}
use Rattle.mc_type_phase.specs.code.Adding.{IsVerdict, WasPut, Adds}
use Rattle.mc_type_phase.specs.declared.checker.Verdict.{Verdict}
use Rattle.mc_type_phase.specs.declared.checker.Verdict.TheVariants as V
use Rattle.mc_type_phase.specs.declared.judged.TypedClause.{TypedClause}
use Rattle.mc_type_phase.specs.declared.judged.TypecheckResult.{TypecheckResult}

none_left : {A : Type 0} (xs ys : List A) → xs ++ ys ≡ [] → xs ≡ []
none_left [] ys e = refl
none_left (x ∷ xs) ys e = cc

never_put : {A : Type 0} (xs ys : List A) (x : A) → ys ≡ xs ++ x ∷ [] → ys ≡ [] → ⊥
never_put [] ys x e none = let clash : x ∷ [] ≡ [] = sym e ∙ none in cc
never_put (y ∷ xs) ys x e none = let clash : y ∷ (xs ++ x ∷ []) ≡ [] = sym e ∙ none in cc

module _ (l : Linked) (seen : (own : ℕ) → ℕ → Option TypeTerm) where
  faults_both :
      (is js : List Item) (bs cs : List Broken)
      → AreFaults l seen is bs → AreFaults l seen js cs → AreFaults l seen (is ++ js) (bs ++ cs)
  faults_both [] js bs cs f g =
      let Q : List Broken → Type 0 = λ xs. AreFaults l seen js (xs ++ cs) in
      subst Q (sym f) g
  faults_both (i ∷ is) js bs cs f g = (
    f.0,
    f.1 ++ cs,
    f.2,
    faults_both is js f.1 cs f.3 g,
    ap (λ xs. xs ++ cs) f.4 ∙ append_assoc (broken_at i.at f.0) f.1 cs,
  )

  typed_both :
      (is js : List Item) (made more : List TypedClause)
      → AreTyped l seen is made → AreTyped l seen js more
      → AreTyped l seen (is ++ js) (made ++ more)
  typed_both [] js made more f g =
      let Q : List TypedClause → Type 0 = λ xs. AreTyped l seen js (xs ++ more) in
      subst Q (sym f) g
  typed_both (i ∷ is) js made more f g = (
    f.0,
    f.1 ++ more,
    f.2,
    typed_both is js f.1 more f.3 g,
    ap (λ xs. xs ++ more) f.4,
  )

  pub adds_none : (j : TypecheckResult) → Adds l seen [] j j
  adds_none j =
      record {
        broken = [];
        faults = refl;
        is = sym (append-nil j.broken.items);
        made = λ none. [];
        typed = λ none. refl;
        added = λ none. sym (append-nil (typed_clauses j.clauses.items));
      }

  pub adds_both :
      (is js : List Item) (a b c : TypecheckResult)
      → Adds l seen is a b → Adds l seen js b c → Adds l seen (is ++ js) a c
  adds_both is js a b c x y =
      let before : c.broken.items ≡ [] → b.broken.items ≡ [] =
      λ none. none_left b.broken.items y.broken (sym y.is ∙ none)
      in
      record {
        broken = x.broken ++ y.broken;
        faults = faults_both is js x.broken y.broken x.faults y.faults;
        is =
            y.is
            ∙ ap (λ xs. xs ++ y.broken) x.is
            ∙ append_assoc a.broken.items x.broken y.broken;
        made = λ none. x.made (before none) ++ y.made none;
        typed =
            λ none.
            typed_both is js (x.made (before none)) (y.made none) (x.typed (before none))
            (y.typed none);
        added =
            λ none.
            y.added none
            ∙ ap (λ xs. xs ++ y.made none) (x.added (before none))
            ∙ append_assoc (typed_clauses a.clauses.items) (x.made (before none)) (y.made none);
      }

  pub adds_one :
      (i : Item) (clause : UnresolvedClause) (v : Verdict) (a b : TypecheckResult)
      → plain_unresolved_clause clause ≡ i.numbered.clause
      → clause.names ≡ i.numbered.names → clause.place ≡ i.at
      → IsVerdict l (source_of l seen i) (parameter_counts l) clause v
      → WasPut i.numbered.clause.pred i.at v a b → Adds l seen (i ∷ []) a b
  adds_one i clause (V.Typed made) a b is names place verdict put =
      let Q : Unresolved_clause → Type 0 =
      λ c. TypingSays l (source_of l seen i) (parameter_counts l) c None
      in
      record {
        broken = [];
        faults = (None, [], subst Q is verdict.0, refl, refl);
        is = put.0 ∙ sym (append-nil a.broken.items);
        made = λ none. record { pred = i.numbered.clause.pred; resolved = made } ∷ [];
        typed =
            λ none. (
              record { pred = i.numbered.clause.pred; resolved = made },
              [],
              record {
                pred = refl;
                clause = clause;
                is = is;
                names = names;
                place = place;
                resolved = verdict.1;
              },
              refl,
              refl,
            );
        added = λ none. put.1 (sym put.0 ∙ none);
      }
  adds_one i clause (V.Faulty rule what) a b is names place verdict put =
      let Q : Unresolved_clause → Type 0 =
      λ c. TypingSays l (source_of l seen i) (parameter_counts l) c (Some (rule, what))
      in
      let told : Broken = record { rule = rule; at = i.at; what = what } in
      record {
        broken = told ∷ [];
        faults = (Some (rule, what), [], subst Q is verdict, refl, refl);
        is = put;
        made = λ none. [];
        typed = λ none. absurd (never_put a.broken.items b.broken.items told put none);
        added = λ none. absurd (never_put a.broken.items b.broken.items told put none);
      }

  -- what is judged behind nothing
  pub judged_all :
      (is : List Item) (a b : TypecheckResult)
      → a.broken.items ≡ [] → a.clauses.items ≡ [] → Adds l seen is a b → IsJudged l seen is b
  judged_all is a b no_fault no_clause adds =
      let Faults : List Broken → Type 0 = λ bs. AreFaults l seen is bs in
      let Typed : List TypedClause → Type 0 = λ rs. AreTyped l seen is rs in
      record {
        faults =
            subst Faults (sym (adds.is ∙ ap (λ (bs : List Broken). bs ++ adds.broken) no_fault))
            adds.faults;
        typed =
            λ none.
            subst Typed
            (sym
            (adds.added none
            ∙ ap (λ (rs : List TypedClause). rs ++ adds.made none) (ap typed_clauses no_clause)))
            (adds.typed none);
      }
