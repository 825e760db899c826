-- What is found in one list of variables after another, and how many variables that is.
use Rattle.std.proofs.Common.{◌≡◌, ℕ, ◌+◌, ◌-◌, ◌^◌, ◌≤◌, min, Bool, true, false, cond, List, [], ◌∷◌, ◌++◌, length, nat_lt, refl, ap, ◌∙◌, arith, lit≤}
use Rattle.std.specs.Set.{distinct_count}
use Rattle.std.specs.Str.{bytes_eq}
use Rattle.mc_term_data.specs.Plain.{PlainTerm}
use Rattle.mc_base.proofs.NameSetLaws.{length-put_all}
use Rattle.mc_base.specs.NameSets.{put, put_all}
use Rattle.mc_clause_syntax.specs.declared.variables.Variables.{Variables}
use Rattle.mc_clause_syntax.specs.Limits.{is_anonymous, anonymous, with_name, variables, greatest_variables, too_many_variables}
use Rattle.mc_clause_syntax.specs.code.Found.{with_variable, with_variables}

pub with_variables_append : (v : Variables) (xs ys : List (List ℕ)) → with_variables v (xs ++ ys) ≡ with_variables (with_variables v xs) ys
with_variables_append v [] ys = refl
with_variables_append v (x ∷ xs) ys = with_variables_append (with_variable v x) xs ys

pub names-found : (v : Variables) (xs : List (List ℕ)) → (with_variables v xs).names ≡ put_all v.names (with_name xs)
names-found v [] = refl
names-found v (x ∷ xs) = names-found (with_variable v x) xs ∙ step (is_anonymous x)
  where
    step : (b : Bool) → put_all (cond b (record v { anonymous = min (v.anonymous + 1) (2 ^ 32 - 1) }) (record v { names = put v.names x })).names (with_name xs)
        ≡ put_all v.names (cond b (with_name xs) (x ∷ with_name xs))
    step true = refl
    step false = refl

pub anonymous-found : (v : Variables) (xs : List (List ℕ)) → v.anonymous ≤ 2 ^ 32 - 1 → (with_variables v xs).anonymous ≡ min (v.anonymous + anonymous xs) (2 ^ 32 - 1)
anonymous-found v [] h = omega arith
anonymous-found v (x ∷ xs) h = step (is_anonymous x) (anonymous-found (with_variable v x) xs)
  where
    after : Bool → Variables
    after b = cond b (record v { anonymous = min (v.anonymous + 1) (2 ^ 32 - 1) }) (record v { names = put v.names x })

    step : (b : Bool) → ((after b).anonymous ≤ 2 ^ 32 - 1 → (with_variables (after b) xs).anonymous ≡ min ((after b).anonymous + anonymous xs) (2 ^ 32 - 1))
        → (with_variables (after b) xs).anonymous ≡ min (v.anonymous + (cond b 1 0 + anonymous xs)) (2 ^ 32 - 1)
    step true f = let e = f (omega arith) in omega arith
    step false f = let e = f h in omega arith

same_test : (n d : ℕ) → nat_lt greatest_variables (min (0 + n) (2 ^ 32 - 1) + d) ≡ nat_lt greatest_variables (n + d)
same_test n d = grind arith

pub found_too_many : (v : Variables) (t : PlainTerm) → v.anonymous ≡ 0 → v.names ≡ [] → nat_lt greatest_variables ((with_variables v (variables t)).anonymous + length (with_variables v (variables t)).names) ≡ too_many_variables t
found_too_many v t h k =
    let a : (with_variables v (variables t)).anonymous ≡ min (0 + anonymous (variables t)) (2 ^ 32 - 1) = anonymous-found v (variables t) (rw h (lit≤ tt)) ∙ rw h refl in
    let n : length (with_variables v (variables t)).names ≡ distinct_count bytes_eq (with_name (variables t)) =
    ap length (names-found v (variables t)) ∙ rw k (length-put_all (with_name (variables t))) in rw (a, n) (same_test (anonymous (variables t)) (distinct_count bytes_eq (with_name (variables t))))
