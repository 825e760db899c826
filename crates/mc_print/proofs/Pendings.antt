-- What is still to be written: what is put before it, and what is taken from it.
use Rattle.std.proofs.Common.{◌≡◌, ℕ, suc, ◌+◌, ◌<◌, ◌≤◌, List, [], ◌∷◌, ◌++◌, Bool, true, false, length, map, drop, get_or, refl, sym, ap, subst, ◌∙◌, arith, append_assoc}
use Rattle.std.proofs.lemmas.List.{append-nil, drop_more, drop_all}
use Rattle.mc_program.specs.Values.{Val, int, char, str, con, state, vals, plain_value}
use Rattle.mc_program.specs.Printed.{printed, SymbolsBelow, name_at, names_of}
use Rattle.mc_program.specs.declared.value.Value.{Value}
use Rattle.mc_program.specs.declared.program.Program.{Program}
use Rattle.mc_print.specs.code.Places.{at_place, opening, separator, fronts_text, last_place, closing, is_list_front}
use Rattle.mc_print.specs.code.Tasks.{task_text, pending, heft, hefts, task_weight, weight, IsNamed, AreNamed, separators, closings, PutFront, Written, Opens, Writes}
use Rattle.mc_print.specs.declared.value.Place.{Place}
use Rattle.mc_print.specs.declared.value.Place.TheVariants.{Whole, Tail}
use Rattle.mc_print.specs.declared.value.Task.{Task}
use Rattle.mc_print.proofs.Written.{at_place-con, parts, symbols_fronts, symbols_last}

pending_put : (names : List (List ℕ)) (ts us : List Task) → pending names (ts ++ us) ≡ pending names us ++ pending names ts
pending_put names [] us = sym (append-nil (pending names us))
pending_put names (t ∷ ts) us = ap (λ l. l ++ task_text names t) (pending_put names ts us) ∙ append_assoc (pending names us) (pending names ts) (task_text names t)

weight_put : (ts us : List Task) → weight (ts ++ us) ≡ weight ts + weight us
weight_put [] us = omega arith
weight_put (t ∷ ts) us = omega (arith, weight_put ts us)

named_put : (n : ℕ) (ts us : List Task) → AreNamed n ts → AreNamed n us → AreNamed n (ts ++ us)
named_put n [] us h k = k
named_put n (t ∷ ts) us h k = (h.0, named_put n ts us h.1 k)

named_rest : (n : ℕ) (ts us : List Task) → AreNamed n (ts ++ us) → AreNamed n ts
named_rest n [] us h = tt
named_rest n (t ∷ ts) us h = (h.0, named_rest n ts us h.1)

named_next : (n : ℕ) (ts us : List Task) → AreNamed n (ts ++ us) → AreNamed n us
named_next n [] us h = h
named_next n (t ∷ ts) us h = named_next n ts us h.1

-- what is to be written next is taken
module _ (all before : List Task) (t : Task) (popped : all ≡ before ++ (t ∷ [])) where
  pub next_text : (names : List (List ℕ)) → pending names all ≡ task_text names t ++ pending names before
  next_text names = ap (pending names) popped ∙ pending_put names before (t ∷ [])

  pub next_weight : weight all ≡ weight before + task_weight t
  next_weight = let e : weight all ≡ weight (before ++ (t ∷ [])) = ap weight popped in omega (arith, e, weight_put before (t ∷ []))

  pub next_named : (n : ℕ) → AreNamed n all → IsNamed n t × AreNamed n before
  next_named n h = let k = subst (AreNamed n) popped h in ((named_next n before (t ∷ []) k).0, named_rest n before (t ∷ []) k)

-- a task is written that puts nothing
pub written_whole : (P : Program) (out out' text : List ℕ) (whole : ℕ) (before after : List Task) → out' ≡ out ++ text → after ≡ before → 0 < whole → Written P out out' text whole before after
written_whole P out out' text whole before after e same some = record {
  is = (λ i. e i ++ pending (names_of P) (same i)) ∙ append_assoc out text (pending (names_of P) before);
  less = let w : weight after ≡ weight before = ap weight same in omega (arith, w, some);
  named = λ h. subst (AreNamed (length P.symbols)) (sym same) h;
}

pub some_heft : (v : Val) → 0 < heft v
some_heft (int n) = omega arith
some_heft (char n) = omega arith
some_heft (str t) = omega arith
some_heft (con s vs) = omega arith
some_heft (state t k) = omega arith

-- THE ARGUMENTS THAT ARE PUT, the last first, down to a number
pub record FrontPut (is_list : Bool) (front : List Value) (before now : List Task) (k : ℕ) : Type 0 where
  pub within : k ≤ length front
  pub puts : PutFront is_list (map plain_value (drop k front)) before now

pub front_first : (is_list : Bool) (front : List Value) (before : List Task) → FrontPut is_list front before before (length front)
front_first is_list front before =
    let none : drop (length front) front ≡ [] = drop_all (length front) front (omega arith) in
    record {
      within = omega arith;
      puts = subst (λ (l : List Value). PutFront is_list (map plain_value l) before before) (sym none) (record { is = λ names. refl; weighs = omega arith; named = λ n f h. h });
    }

separators_text : (names : List (List ℕ)) (is_list : Bool) → pending names (separators is_list) ≡ separator is_list
separators_text names true = refl
separators_text names false = refl

separators_weight : (is_list : Bool) → weight (separators is_list) ≤ 1
separators_weight true = omega arith
separators_weight false = omega arith

separators_named : (n : ℕ) (is_list : Bool) → AreNamed n (separators is_list)
separators_named n true = tt
separators_named n false = (tt, tt)

closings_text : (names : List (List ℕ)) (place : Place) (is_list : Bool) → pending names (closings place is_list) ≡ closing place is_list
closings_text names Whole true = refl
closings_text names Whole false = refl
closings_text names Tail true = refl
closings_text names Tail false = refl

closings_weight : (place : Place) (is_list : Bool) → weight (closings place is_list) ≤ 1
closings_weight Whole true = omega arith
closings_weight Whole false = omega arith
closings_weight Tail true = omega arith
closings_weight Tail false = omega arith

closings_named : (n : ℕ) (place : Place) (is_list : Bool) → AreNamed n (closings place is_list)
closings_named n Whole true = (tt, tt)
closings_named n Whole false = (tt, tt)
closings_named n Tail true = tt
closings_named n Tail false = (tt, tt)

-- a task over tasks over others
module _ (before mid after us : List Task) (t : Task) (first : mid ≡ before ++ us) (then : after ≡ mid ++ (t ∷ [])) where
  two_text : (names : List (List ℕ)) → pending names after ≡ task_text names t ++ (pending names us ++ pending names before)
  two_text names = next_text after mid t then names ∙ ap (λ l. task_text names t ++ l) (ap (pending names) first ∙ pending_put names before us)

  two_weight : weight after ≡ weight before + weight us + task_weight t
  two_weight = let a = next_weight after mid t then in let b : weight mid ≡ weight (before ++ us) = ap weight first in omega (arith, a, b, weight_put before us)

  two_named : (n : ℕ) → AreNamed n before → AreNamed n us → IsNamed n t → AreNamed n after
  two_named n h k l = subst (AreNamed n) (sym then) (named_put n mid (t ∷ []) (subst (AreNamed n) (sym first) (named_put n before us h k)) (l, tt))

-- one more argument is put
pub front_more : (is_list : Bool) (front : List Value) (before now mid more : List Task) (j k : ℕ) (t : Task) (d : Value)
    → FrontPut is_list front before now j → j ≡ k + 1 → mid ≡ now ++ separators is_list → more ≡ mid ++ (t ∷ [])
    → ((names : List (List ℕ)) → task_text names t ≡ printed names (plain_value (get_or front k d))) → task_weight t ≡ heft (plain_value (get_or front k d)) → ((n : ℕ) → SymbolsBelow n (plain_value (get_or front k d)) → IsNamed n t)
    → FrontPut is_list front before more k
front_more is_list front before now mid more j k t d so next first then text weighs named =
    let x = plain_value (get_or front k d) in
    let xs = map plain_value (drop j front) in
    let lt : k < length front = omega (arith, next, so.within) in
    let rest : drop k front ≡ get_or front k d ∷ drop j front = drop_more front k d lt ∙ ap (λ n. get_or front k d ∷ drop n front) (sym next) in
    let put : PutFront is_list (x ∷ xs) before more = record {
      is = λ names.
          two_text now mid more (separators is_list) t first then names
          ∙ (λ i. text names i ++ (separators_text names is_list i ++ so.puts.is names i))
          ∙ ap (λ l. printed names x ++ l) (sym (append_assoc (separator is_list) (fronts_text names is_list xs) (pending names before)))
          ∙ sym (append_assoc (printed names x) (separator is_list ++ fronts_text names is_list xs) (pending names before));
      weighs = omega (arith, so.puts.weighs, two_weight now mid more (separators is_list) t first then, separators_weight is_list, weighs);
      named = λ n f h. two_named now mid more (separators is_list) t first then n (so.puts.named n f.1 h) (separators_named n is_list) (named n f.0);
    } in
    record { within = omega (arith, lt); puts = subst (λ (l : List Value). PutFront is_list (map plain_value l) before more) (sym rest) put }

pub front_whole : (is_list : Bool) (front : List Value) (before now : List Task) (k : ℕ) → k ≡ 0 → FrontPut is_list front before now k → PutFront is_list (map plain_value front) before now
front_whole is_list front before now k none so = subst (λ n. PutFront is_list (map plain_value (drop n front)) before now) none so.puts

hefts_front : (ws : List Val) (w : Val) → hefts (vals (ws ++ (w ∷ []))) ≡ suc (hefts (vals ws) + heft w)
hefts_front [] w = omega arith
hefts_front (x ∷ ws) w = omega (arith, hefts_front ws w)

regrouped : (out o f a c r : List ℕ) → (out ++ o) ++ (f ++ (a ++ (c ++ r))) ≡ out ++ ((o ++ (f ++ (a ++ c))) ++ r)
regrouped out o f a c r = simp append_assoc

-- a constructor is opened: what is written and what is still to be written are together its text
pub opened : (P : Program) (out out' name : List ℕ) (before one two after : List Task) (place place' : Place) (s : ℕ) (ws : List Val) (w v : Val) (is_list : Bool) (t : Task)
    → v ≡ con s (vals (ws ++ (w ∷ []))) → name ≡ name_at (names_of P) s → is_list ≡ is_list_front name ws
    → out' ≡ out ++ opening place name is_list → one ≡ before ++ closings place is_list → place' ≡ last_place is_list
    → ((names : List (List ℕ)) → task_text names t ≡ at_place names place' w) → task_weight t ≡ heft w → ((n : ℕ) → SymbolsBelow n w → IsNamed n t)
    → two ≡ one ++ (t ∷ []) → PutFront is_list ws two after → SymbolsBelow (length P.symbols) v
    → Opens P out out' place v before after
opened P out out' name before one two after place place' s ws w v is_list t is at lists e1 e2 e3 text weighs named e4 put below =
    let names = names_of P in
    let n = length P.symbols in
    let O = opening place name is_list in
    let F = fronts_text names is_list ws in
    let A = at_place names (last_place is_list) w in
    let C = closing place is_list in
    let R = pending names before in
    let all = subst (SymbolsBelow n) is below in
    let whole : at_place names place v ≡ O ++ (F ++ (A ++ C)) =
    ap (at_place names place) is ∙ at_place-con names place s ws w ∙ ap (λ m. parts names place m (is_list_front m ws) ws w) (sym at) ∙ ap (λ b. parts names place name b ws w) (sym lists) in
    let rest : pending names two ≡ A ++ (C ++ R) =
    two_text before one two (closings place is_list) t e2 e4 names ∙ ap (λ l. l ++ (pending names (closings place is_list) ++ R)) (text names ∙ ap (λ p. at_place names p w) e3) ∙ ap (λ l. A ++ (l ++ R)) (closings_text names place is_list) in
    let large : heft v ≡ suc (hefts (vals (ws ++ (w ∷ [])))) = ap heft is in
    record {
      is = (λ i. e1 i ++ (put.is names ∙ ap (λ l. F ++ l) rest) i) ∙ regrouped out O F A C R ∙ ap (λ l. out ++ (l ++ R)) (sym whole);
      less = omega (arith, put.weighs, two_weight before one two (closings place is_list) t e2 e4, closings_weight place is_list, weighs, large, hefts_front ws w);
      named = λ h. put.named n (symbols_fronts n ws w all.1) (two_named before one two (closings place is_list) t e2 e4 n h (closings_named n place is_list) (named n (symbols_last n ws w all.1)));
    }

-- one turn of the loop
pub turned : (P : Program) (out out' goal : List ℕ) (all before after : List Task) (t : Task) → all ≡ before ++ (t ∷ []) → out ++ pending (names_of P) all ≡ goal → Writes P out out' t before after → out' ++ pending (names_of P) after ≡ goal
turned P out out' goal all before after t popped so w = w.is ∙ ap (λ l. out ++ l) (sym (next_text all before t popped (names_of P))) ∙ so
