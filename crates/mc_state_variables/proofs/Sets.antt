-- What names as a set say is what they say as a list.
use Rattle.std.proofs.Common.{◌≡◌, ℕ, suc, Bool, true, false, not, cond, ◌&&◌, ◌||◌, List, [], ◌∷◌, ◌++◌, Option, Some, None, ap, ap₂, refl, sym, ◌∙◌, append_assoc, if◌then◌else◌}
use Rattle.std.specs.Set.{is_member}
use Rattle.std.specs.Str.{bytes_eq}
use Rattle.std.proofs.lemmas.List.{append-nil}
use Rattle.std.proofs.lemmas.List.Folds.{list_any-append}
use Rattle.mc_base.specs.NameSets.{put, put_all}
use Rattle.std.specs.Cmp.Lexicographic.{nat_list_eq_equiv}
use Rattle.mc_base.proofs.NameSetLaws.{is_member-put_all, is_member-push_unless, or_false}
use Rattle.mc_clause_syntax.specs.States.{in_scope}
use Rattle.mc_state_variables.specs.Updates.{leave_out}
use Rattle.mc_term_data.specs.Plain.{PlainTerm, PlainTerms, at, no_term, more_terms, Var, Int, Str, App, Items, Tailed, Conj, Disj}
use Rattle.mc_clause_syntax.specs.declared.state.StateForm.{StateForm}
use Rattle.mc_clause_syntax.specs.StateVariables.{state}
use Rattle.mc_state_variables.specs.Versions.{Held, version, before_of, after_of, unnamed, distinct, begun, behind, renewed, renewed_behind, handed, seen_outside, closing, closings}
use Rattle.mc_state_variables.specs.Numbered.{versions_named, named_versions, quantifier}

-- names that have the same members
abbrev pub HaveSame : List (List ℕ) → List (List ℕ) → Type 0
HaveSame xs ys = (x : List ℕ) → in_scope xs x ≡ in_scope ys x

pub set_same : (xs : List (List ℕ)) → HaveSame (put_all [] xs) xs
set_same xs x = is_member-put_all [] xs x

pub leave_out-same : (xs ys : List (List ℕ)) → HaveSame xs ys → (zs : List (List ℕ)) → leave_out xs zs ≡ leave_out ys zs
leave_out-same xs ys h [] = refl
leave_out-same xs ys h (z ∷ zs) = ap₂ (λ b rest. if b then rest else z ∷ rest) (h z) (leave_out-same xs ys h zs)

pub unnamed-same : (xs ys : List (List ℕ)) → HaveSame xs ys → (hs : List Held) → unnamed xs hs ≡ unnamed ys hs
unnamed-same xs ys h [] = refl
unnamed-same xs ys h (s ∷ hs) = ap₂ (λ b rest. if b then rest else s ∷ rest) (h s.name) (unnamed-same xs ys h hs)

pub leave_out-set : (xs zs : List (List ℕ)) → leave_out (put_all [] xs) zs ≡ leave_out xs zs
leave_out-set xs zs = leave_out-same (put_all [] xs) xs (set_same xs) zs

pub unnamed-set : (xs : List (List ℕ)) (hs : List Held) → unnamed (put_all [] xs) hs ≡ unnamed xs hs
unnamed-set xs hs = unnamed-same (put_all [] xs) xs (set_same xs) hs

pub renewed-same : (xs ys : List (List ℕ)) → HaveSame xs ys → (n : ℕ) (hs : List Held) → renewed xs n hs ≡ renewed ys n hs
renewed-same xs ys h n [] = refl
renewed-same xs ys h n (s ∷ hs) =
    ap (λ b. if b then record { name = s.name; before = s.before; after = n } ∷ renewed xs (suc n) hs else s ∷ renewed xs n hs) (h s.name)
    ∙ ap₂ (λ fresh kept. if in_scope ys s.name then record { name = s.name; before = s.before; after = n } ∷ fresh else s ∷ kept) (renewed-same xs ys h (suc n) hs) (renewed-same xs ys h n hs)

pub renewed_behind-same : (xs ys : List (List ℕ)) → HaveSame xs ys → (n : ℕ) (hs : List Held) → renewed_behind xs n hs ≡ renewed_behind ys n hs
renewed_behind-same xs ys h n [] = refl
renewed_behind-same xs ys h n (s ∷ hs) =
    ap (λ b. if b then renewed_behind xs (suc n) hs else renewed_behind xs n hs) (h s.name)
    ∙ ap₂ (λ fresh kept. if in_scope ys s.name then fresh else kept) (renewed_behind-same xs ys h (suc n) hs) (renewed_behind-same xs ys h n hs)

pub handed-same : (xs ys : List (List ℕ)) → HaveSame xs ys → (gs hs : List Held) → handed xs gs hs ≡ handed ys gs hs
handed-same xs ys h [] hs = refl
handed-same xs ys h (g ∷ gs) [] = refl
handed-same xs ys h (g ∷ gs) (s ∷ hs) =
    ap₂ (λ b rest. record { name = s.name; before = (if b then g.after else s.before); after = s.after } ∷ rest) (h s.name) (handed-same xs ys h gs hs)

pub closings-same : (xs ys us vs : List (List ℕ)) → HaveSame xs ys → HaveSame us vs → (l : ℕ) (hs : List Held) → closings xs us l hs ≡ closings ys vs l hs
closings-same xs ys us vs h k l [] = refl
closings-same xs ys us vs h k l (s ∷ hs) =
    ap₂ (λ a b. if a && not b then more_terms (closing l s) (closings xs us l hs) else closings xs us l hs) (h s.name) (k s.name)
    ∙ ap (λ rest. if in_scope ys s.name && not (in_scope vs s.name) then more_terms (closing l s) rest else rest) (closings-same xs ys us vs h k l hs)

pub seen_outside-same : (xs ys : List (List ℕ)) → HaveSame xs ys → (rs hs : List Held) → seen_outside xs rs hs ≡ seen_outside ys rs hs
seen_outside-same xs ys h rs [] = refl
seen_outside-same xs ys h rs (s ∷ hs) =
    ap₂ (λ b rest. record { name = s.name; before = (if b then s.before else before_of s.name rs); after = s.after } ∷ rest) (h s.name) (seen_outside-same xs ys h rs hs)

versions_named-same : (us vs : List (List ℕ)) → HaveSame us vs → (hs : List Held) (l : ℕ) (s : Option (StateForm × List ℕ)) (t : PlainTerm) (ts : PlainTerms) → versions_named hs us l s t ts ≡ versions_named hs vs l s t ts
versions_named-same us vs h hs l None t ts = refl
versions_named-same us vs h hs l (Some s) t ts = ap (λ b. more_terms (version (before_of s.1 hs) l) (if b then more_terms (version (after_of s.1 hs) l) ts else ts)) (h s.1)

pub named_versions-same : (us vs : List (List ℕ)) → HaveSame us vs → (hs : List Held) (ts : PlainTerms) → named_versions hs us ts ≡ named_versions hs vs ts
named_versions-same us vs h hs no_term = refl
named_versions-same us vs h hs (more_terms (at (App w ts) l) rest) =
    ap (λ us'. versions_named hs us l (state w ts) (at (App w ts) l) us') (named_versions-same us vs h hs rest) ∙ versions_named-same us vs h hs l (state w ts) (at (App w ts) l) (named_versions hs vs rest)
named_versions-same us vs h hs (more_terms (at (Var x) l) rest) = ap (λ ts. more_terms (at (Var x) l) ts) (named_versions-same us vs h hs rest)
named_versions-same us vs h hs (more_terms (at (Int n) l) rest) = ap (λ ts. more_terms (at (Int n) l) ts) (named_versions-same us vs h hs rest)
named_versions-same us vs h hs (more_terms (at (Str s) l) rest) = ap (λ ts. more_terms (at (Str s) l) ts) (named_versions-same us vs h hs rest)
named_versions-same us vs h hs (more_terms (at (Items us') l) rest) = ap (λ ts. more_terms (at (Items us') l) ts) (named_versions-same us vs h hs rest)
named_versions-same us vs h hs (more_terms (at (Tailed us' t) l) rest) = ap (λ ts. more_terms (at (Tailed us' t) l) ts) (named_versions-same us vs h hs rest)
named_versions-same us vs h hs (more_terms (at (Conj us') l) rest) = ap (λ ts. more_terms (at (Conj us') l) ts) (named_versions-same us vs h hs rest)
named_versions-same us vs h hs (more_terms (at (Disj us') l) rest) = ap (λ ts. more_terms (at (Disj us') l) ts) (named_versions-same us vs h hs rest)

quantifier-same : (us vs : List (List ℕ)) → HaveSame us vs → (hs : List Held) (q : PlainTerm) → quantifier hs us q ≡ quantifier hs vs q
quantifier-same us vs h hs (at (Items ts) l) = ap (λ us'. at (Items us') l) (named_versions-same us vs h hs ts)
quantifier-same us vs h hs (at (App w ts) l) = refl
quantifier-same us vs h hs (at (Var x) l) = refl
quantifier-same us vs h hs (at (Int n) l) = refl
quantifier-same us vs h hs (at (Str s) l) = refl
quantifier-same us vs h hs (at (Tailed ts t) l) = refl
quantifier-same us vs h hs (at (Conj ts) l) = refl
quantifier-same us vs h hs (at (Disj ts) l) = refl

pub renewed-set : (xs : List (List ℕ)) (n : ℕ) (hs : List Held) → renewed (put_all [] xs) n hs ≡ renewed xs n hs
renewed-set xs n hs = renewed-same (put_all [] xs) xs (set_same xs) n hs

pub renewed_behind-set : (xs : List (List ℕ)) (n : ℕ) (hs : List Held) → renewed_behind (put_all [] xs) n hs ≡ renewed_behind xs n hs
renewed_behind-set xs n hs = renewed_behind-same (put_all [] xs) xs (set_same xs) n hs

pub handed-set : (xs : List (List ℕ)) (gs hs : List Held) → handed (put_all [] xs) gs hs ≡ handed xs gs hs
handed-set xs gs hs = handed-same (put_all [] xs) xs (set_same xs) gs hs

pub closings-wanted_set : (xs us : List (List ℕ)) (l : ℕ) (hs : List Held) → closings (put_all [] xs) us l hs ≡ closings xs us l hs
closings-wanted_set xs us l hs = closings-same (put_all [] xs) xs us us (set_same xs) (λ x. refl) l hs

pub closings-updated_set : (xs us : List (List ℕ)) (l : ℕ) (hs : List Held) → closings xs (put_all [] us) l hs ≡ closings xs us l hs
closings-updated_set xs us l hs = closings-same xs xs (put_all [] us) us (λ x. refl) (set_same us) l hs

pub seen_outside-set : (xs : List (List ℕ)) (rs hs : List Held) → seen_outside (put_all [] xs) rs hs ≡ seen_outside xs rs hs
seen_outside-set xs rs hs = seen_outside-same (put_all [] xs) xs (set_same xs) rs hs

pub quantifier-set : (us : List (List ℕ)) (hs : List Held) (q : PlainTerm) → quantifier hs (put_all [] us) q ≡ quantifier hs us q
quantifier-set us hs q = quantifier-same (put_all [] us) us (set_same us) hs q

pub ruleset sets = (leave_out-set, unnamed-set, renewed-set, renewed_behind-set, handed-set, closings-wanted_set, closings-updated_set, seen_outside-set, quantifier-set)

left_out_by : (xs ys zs : List (List ℕ)) (z : List ℕ) → leave_out (xs ++ ys) zs ≡ leave_out xs (leave_out ys zs) → (b a : Bool) → in_scope xs z ≡ a
    → (if a || b then leave_out (xs ++ ys) zs else z ∷ leave_out (xs ++ ys) zs) ≡ leave_out xs (if b then leave_out ys zs else z ∷ leave_out ys zs)
left_out_by xs ys zs z e true true f = e
left_out_by xs ys zs z e true false f = e
left_out_by xs ys zs z e false true f = rw f e
left_out_by xs ys zs z e false false f = rw f (ap (λ rest. z ∷ rest) e)

left_out_of_both : (xs ys zs : List (List ℕ)) → leave_out (xs ++ ys) zs ≡ leave_out xs (leave_out ys zs)
left_out_of_both xs ys [] = refl
left_out_of_both xs ys (z ∷ zs) =
    ap (λ c. if c then leave_out (xs ++ ys) zs else z ∷ leave_out (xs ++ ys) zs) (list_any-append (bytes_eq z) xs ys)
    ∙ left_out_by xs ys zs z (left_out_of_both xs ys zs) (in_scope ys z) (in_scope xs z) refl

nothing_left_out : (zs : List (List ℕ)) → leave_out [] zs ≡ zs
nothing_left_out [] = refl
nothing_left_out (z ∷ zs) = ap (λ rest. z ∷ rest) (nothing_left_out zs)

with_member : (names : List (List ℕ)) (x : List ℕ) → in_scope names x ≡ true → HaveSame (names ++ x ∷ []) names
with_member names x h q = list_any-append (bytes_eq q) names (x ∷ []) ∙ ap (λ b. in_scope names q || b) (or_false (bytes_eq q x)) ∙ sym (is_member-push_unless nat_list_eq_equiv names x q true h)

put_all_by : (names xs : List (List ℕ)) (x : List ℕ) → ((ns : List (List ℕ)) → put_all ns xs ≡ ns ++ leave_out ns (distinct xs)) → (b : Bool) → in_scope names x ≡ b
    → put_all (if b then names else names ++ x ∷ []) xs ≡ names ++ (if b then leave_out names (leave_out (x ∷ []) (distinct xs)) else x ∷ leave_out names (leave_out (x ∷ []) (distinct xs)))
put_all_by names xs x e true h = e names ∙ ap (λ ys. names ++ ys) (sym (leave_out-same (names ++ x ∷ []) names (with_member names x h) (distinct xs)) ∙ left_out_of_both names (x ∷ []) (distinct xs))
put_all_by names xs x e false h =
    e (names ++ x ∷ []) ∙ ap (λ ys. (names ++ x ∷ []) ++ ys) (left_out_of_both names (x ∷ []) (distinct xs)) ∙ append_assoc names (x ∷ []) (leave_out names (leave_out (x ∷ []) (distinct xs)))

put_all_is : (names xs : List (List ℕ)) → put_all names xs ≡ names ++ leave_out names (distinct xs)
put_all_is names [] = sym (append-nil names)
put_all_is names (x ∷ xs) = put_all_by names xs x (λ ns. put_all_is ns xs) (in_scope names x) refl

-- names that are put into a set are each once
pub set_is_distinct : (xs : List (List ℕ)) → put_all [] xs ≡ distinct xs
set_is_distinct xs = put_all_is [] xs ∙ nothing_left_out (distinct xs)

pub begun-more : (n : ℕ) (xs : List (List ℕ)) (x : List ℕ) → begun n (xs ++ x ∷ []) ≡ begun n xs ++ begun (behind n xs) (x ∷ [])
begun-more n [] x = refl
begun-more n (y ∷ xs) x = ap (λ hs. record { name = y; before = n; after = suc n } ∷ hs) (begun-more (suc (suc n)) xs x)

pub behind-more : (n : ℕ) (xs : List (List ℕ)) (x : List ℕ) → behind n (xs ++ x ∷ []) ≡ behind (behind n xs) (x ∷ [])
behind-more n [] x = refl
behind-more n (y ∷ xs) x = behind-more (suc (suc n)) xs x

pub ruleset entering = (set_is_distinct, unnamed-set, begun-more, behind-more)

pub renewed-one : (xs : List (List ℕ)) (n : ℕ) (h : Held) (hs : List Held) → renewed xs n (h ∷ hs)
    ≡ record { name = h.name; before = h.before; after = (if in_scope xs h.name then n else h.after) } ∷ renewed xs (if in_scope xs h.name then suc n else n) hs
renewed-one xs n h hs = by (in_scope xs h.name)
  where
    by : (b : Bool) → (if b then record { name = h.name; before = h.before; after = n } ∷ renewed xs (suc n) hs else h ∷ renewed xs n hs)
        ≡ record { name = h.name; before = h.before; after = (if b then n else h.after) } ∷ renewed xs (if b then suc n else n) hs
    by true = refl
    by false = refl

pub renewed_behind-one : (xs : List (List ℕ)) (n : ℕ) (h : Held) (hs : List Held) → renewed_behind xs n (h ∷ hs) ≡ renewed_behind xs (if in_scope xs h.name then suc n else n) hs
renewed_behind-one xs n h hs = by (in_scope xs h.name)
  where
    by : (b : Bool) → (if b then renewed_behind xs (suc n) hs else renewed_behind xs n hs) ≡ renewed_behind xs (if b then suc n else n) hs
    by true = refl
    by false = refl

pub ruleset renewing = (renewed-one, renewed_behind-one)
