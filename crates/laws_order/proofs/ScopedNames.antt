-- Quantifiers of a goal whose scopes are written out are named apart, where its own ones name variables of their own.
use Rattle.std.proofs.Common.{ℕ, List, [], ◌∷◌, ◌++◌, subst, ⊎_elim}
use Rattle.mc_program.specs.Programs.{expressions, Formula, Equal, Call, And, Or, If, Not, Exists, Formulas, no_formulas, formula_then}
use Rattle.mc_model.specs.Lists.{In, Apart, Among, without}
use Rattle.mc_accepted.specs.Scope.{variables_in_all, occurring, occurring_all, free_of, quantified, scoped, scoped_parts, scoped_disjuncts}
use Rattle.mc_accepted.specs.Normal.{named_by_quantifiers, named_by_quantifiers_of_all}
use Rattle.laws_language.proofs.FlatGoals.{in_left, in_right, in_either}
use Rattle.laws_language.proofs.ClauseNumbers.{from_without, from_once}
use Rattle.laws_language.proofs.Scopes.{wider, own, own_is_out, occurs, parts_occur, written}
use Rattle.laws_order.specs.NormalScopes.{mentioned, all_mentioned, NamedApart, PartsNamedApart, DisjunctsNamedApart, OwnNames, PartsOwnNames, DisjunctsOwnNames, ScopedNamedApart}
use Rattle.laws_order.proofs.FlatScopes.{both}
use Rattle.laws_order.proofs.NormalScopes.{free_occurs, first_mentioned, rest_mentioned, own_mentioned, condition_mentioned, then_mentioned, else_mentioned, scope_mentioned, under_mentioned}

-- a goal's own quantifiers name nothing that is around it
mutual
  names_apart : (X : List ℕ) (g : Formula) → OwnNames X g → Apart (named_by_quantifiers g) X
  names_apart X (Equal a b) h x i j = i
  names_apart X (Call p ts) h x i j = i
  names_apart X (And gs) h x i j = all_names_apart X gs h x i j
  names_apart X (Or gs) h x i j = each_names_apart X gs h x i j
  names_apart X (If vs c t e) h x i j =
      ⊎_elim (λ a. h.0 x a j)
      (λ a.
      ⊎_elim (λ b. names_apart (X ++ (vs ++ mentioned t)) c h.1 x b (in_left x X (vs ++ mentioned t) j))
      (λ b. ⊎_elim (λ d. names_apart (X ++ (vs ++ mentioned c)) t h.2 x d (in_left x X (vs ++ mentioned c) j)) (λ d. names_apart X e h.3 x d j) (in_either x (named_by_quantifiers t) (named_by_quantifiers e) b))
      (in_either x (named_by_quantifiers c) (named_by_quantifiers t ++ named_by_quantifiers e) a))
      (in_either x vs (named_by_quantifiers c ++ (named_by_quantifiers t ++ named_by_quantifiers e)) i)
  names_apart X (Not g) h x i j = names_apart X g h x i j
  names_apart X (Exists vs g) h x i j = ⊎_elim (λ a. h.0 x a j) (λ a. names_apart (X ++ vs) g h.1 x a (in_left x X vs j)) (in_either x vs (named_by_quantifiers g) i)

  all_names_apart : (X : List ℕ) (gs : Formulas) → PartsOwnNames X gs → Apart (named_by_quantifiers_of_all gs) X
  all_names_apart X no_formulas h x i j = i
  all_names_apart X (formula_then g gs) h x i j =
      ⊎_elim (λ a. names_apart (X ++ all_mentioned gs) g h.0 x a (in_left x X (all_mentioned gs) j)) (λ a. all_names_apart (X ++ mentioned g) gs h.1 x a (in_left x X (mentioned g) j))
      (in_either x (named_by_quantifiers g) (named_by_quantifiers_of_all gs) i)

  each_names_apart : (X : List ℕ) (gs : Formulas) → DisjunctsOwnNames X gs → Apart (named_by_quantifiers_of_all gs) X
  each_names_apart X no_formulas h x i j = i
  each_names_apart X (formula_then g gs) h x i j = ⊎_elim (λ a. names_apart X g h.0 x a j) (λ a. each_names_apart X gs h.1 x a j) (in_either x (named_by_quantifiers g) (named_by_quantifiers_of_all gs) i)

-- what a goal quantifies by itself occurs in it
own_occurs : (X : List ℕ) (g : Formula) → Among (own X g) (occurring g)
own_occurs X g x i = free_occurs g x (from_without x (free_of g) X (from_once x (without (free_of g) X) i))

quantified_names : (vs : List ℕ) (g : Formula) → Among (named_by_quantifiers (quantified vs g)) (vs ++ named_by_quantifiers g)
quantified_names [] g x i = i
quantified_names (v ∷ vs) g x i = i

-- a goal whose scopes are written out mentions what it did
mutual
  scoped_names : (X : List ℕ) (g : Formula) → Among (named_by_quantifiers (scoped X g)) (mentioned g)
  scoped_names X (Equal a b) x i = absurd i
  scoped_names X (Call p ts) x i = absurd i
  scoped_names X (And gs) x i = parts_names X gs x i
  scoped_names X (Or gs) x i = disjuncts_names X gs x i
  scoped_names X (If vs c t e) x i =
      let c' = scoped (X ++ (vs ++ occurring t)) c in
      let t' = scoped (X ++ (vs ++ occurring c)) t in
      let e' = scoped X e in
      let ws = own (X ++ vs) c' in
      ⊎_elim
      (λ a. ⊎_elim (λ b. own_mentioned vs c t e x b)
      (λ b. condition_mentioned vs c t e x (in_left x (occurring c) (named_by_quantifiers c) (subst (λ l. In x l) (occurs (X ++ (vs ++ occurring t)) c) (own_occurs (X ++ vs) c' x b)))) (in_either x vs ws a))
      (λ a.
      ⊎_elim (λ b. condition_mentioned vs c t e x (scoped_names (X ++ (vs ++ occurring t)) c x b))
      (λ b. ⊎_elim (λ d. then_mentioned vs c t e x (scoped_names (X ++ (vs ++ occurring c)) t x d)) (λ d. else_mentioned vs c t e x (scoped_names X e x d)) (in_either x (named_by_quantifiers t') (named_by_quantifiers e') b))
      (in_either x (named_by_quantifiers c') (named_by_quantifiers t' ++ named_by_quantifiers e') a))
      (in_either x (vs ++ ws) (named_by_quantifiers c' ++ (named_by_quantifiers t' ++ named_by_quantifiers e')) i)
  scoped_names X (Not g) x i =
      let g' = scoped X g in
      ⊎_elim (λ a. in_left x (occurring g) (named_by_quantifiers g) (subst (λ l. In x l) (occurs X g) (own_occurs X g' x a))) (λ a. scoped_names X g x a)
      (in_either x (own X g') (named_by_quantifiers g') (quantified_names (own X g') g' x i))
  scoped_names X (Exists vs g) x i = ⊎_elim (λ a. scope_mentioned vs g x a) (λ a. under_mentioned vs g x (scoped_names (X ++ vs) g x a)) (in_either x vs (named_by_quantifiers (scoped (X ++ vs) g)) i)

  parts_names : (X : List ℕ) (gs : Formulas) → Among (named_by_quantifiers_of_all (scoped_parts X gs)) (all_mentioned gs)
  parts_names X no_formulas x i = absurd i
  parts_names X (formula_then g gs) x i =
      ⊎_elim (λ a. first_mentioned g gs x (scoped_names (X ++ occurring_all gs) g x a)) (λ a. rest_mentioned g gs x (parts_names (X ++ occurring g) gs x a))
      (in_either x (named_by_quantifiers (scoped (X ++ occurring_all gs) g)) (named_by_quantifiers_of_all (scoped_parts (X ++ occurring g) gs)) i)

  disjuncts_names : (X : List ℕ) (gs : Formulas) → Among (named_by_quantifiers_of_all (scoped_disjuncts X gs)) (all_mentioned gs)
  disjuncts_names X no_formulas x i = absurd i
  disjuncts_names X (formula_then g gs) x i =
      ⊎_elim (λ a. first_mentioned g gs x (scoped_names X g x a)) (λ a. rest_mentioned g gs x (disjuncts_names X gs x a)) (in_either x (named_by_quantifiers (scoped X g)) (named_by_quantifiers_of_all (scoped_disjuncts X gs)) i)

scoped_mentions : (X : List ℕ) (g : Formula) → Among (mentioned (scoped X g)) (mentioned g)
scoped_mentions X g =
    both (occurring (scoped X g)) (named_by_quantifiers (scoped X g)) (mentioned g) (λ x i. in_left x (occurring g) (named_by_quantifiers g) (subst (λ l. In x l) (occurs X g) i)) (scoped_names X g)

parts_mention : (X : List ℕ) (gs : Formulas) → Among (all_mentioned (scoped_parts X gs)) (all_mentioned gs)
parts_mention X gs =
    both (occurring_all (scoped_parts X gs)) (named_by_quantifiers_of_all (scoped_parts X gs)) (all_mentioned gs)
    (λ x i. in_left x (occurring_all gs) (named_by_quantifiers_of_all gs) (subst (λ l. In x l) (parts_occur X gs) i)) (parts_names X gs)

-- what is around a goal, and names that are mentioned elsewhere and not in it
record Around (O X E : List ℕ) (g : List ℕ) : Type 0 where
  outside : Among O (X ++ E)
  elsewhere : Apart E g

-- a part of a goal, with what others mention: their occurrences count as around it, and the names of their quantifiers as
-- mentioned elsewhere
beside : (O X E whole part vs occur names more : List ℕ) → Around O X E whole → Among part whole → Apart names part → Among more ((X ++ E) ++ (vs ++ (occur ++ names))) → Around (O ++ more) (X ++ (vs ++ occur)) (E ++ names) part
beside O X E whole part vs occur names more h a b c =
    let X' = X ++ (vs ++ occur) in
    let E' = E ++ names in
    let old : Among (X ++ E) (X' ++ E') = both X E (X' ++ E') (λ x i. in_left x X' E' (in_left x X (vs ++ occur) i)) (λ x i. in_right x X' E' (in_left x E names i)) in
    record {
      outside =
          both O more (X' ++ E') (λ x i. old x (h.outside x i))
          (λ x i.
          ⊎_elim (λ j. old x j)
          (λ j. ⊎_elim (λ k. in_left x X' E' (in_right x X (vs ++ occur) (in_left x vs occur k))) (λ k. ⊎_elim (λ l. in_left x X' E' (in_right x X (vs ++ occur) (in_right x vs occur l))) (λ l. in_right x X' E' (in_right x E names l)) (in_either x occur names k)) (in_either x vs (occur ++ names) j))
          (in_either x (X ++ E) (vs ++ (occur ++ names)) (c x i)));
      elsewhere = λ x i j. ⊎_elim (λ k. h.elsewhere x k (a x j)) (λ k. b x k j) (in_either x E names i);
    }

-- fewer names around
mutual
  fewer_names : (X Y : List ℕ) (g : Formula) → Among Y X → OwnNames X g → OwnNames Y g
  fewer_names X Y (Equal a b) f h = tt
  fewer_names X Y (Call p ts) f h = tt
  fewer_names X Y (And gs) f h = fewer_in_parts X Y gs f h
  fewer_names X Y (Or gs) f h = fewer_in_disjuncts X Y gs f h
  fewer_names X Y (If vs c t e) f h = (
    (λ x i j. h.0 x i (f x j)),
    fewer_names (X ++ (vs ++ mentioned t)) (Y ++ (vs ++ mentioned t)) c (wider Y X (vs ++ mentioned t) f) h.1,
    fewer_names (X ++ (vs ++ mentioned c)) (Y ++ (vs ++ mentioned c)) t (wider Y X (vs ++ mentioned c) f) h.2,
    fewer_names X Y e f h.3,
  )
  fewer_names X Y (Not g) f h = fewer_names X Y g f h
  fewer_names X Y (Exists vs g) f h = ((λ x i j. h.0 x i (f x j)), fewer_names (X ++ vs) (Y ++ vs) g (wider Y X vs f) h.1)

  fewer_in_parts : (X Y : List ℕ) (gs : Formulas) → Among Y X → PartsOwnNames X gs → PartsOwnNames Y gs
  fewer_in_parts X Y no_formulas f h = tt
  fewer_in_parts X Y (formula_then g gs) f h =
      (fewer_names (X ++ all_mentioned gs) (Y ++ all_mentioned gs) g (wider Y X (all_mentioned gs) f) h.0, fewer_in_parts (X ++ mentioned g) (Y ++ mentioned g) gs (wider Y X (mentioned g) f) h.1)

  fewer_in_disjuncts : (X Y : List ℕ) (gs : Formulas) → Among Y X → DisjunctsOwnNames X gs → DisjunctsOwnNames Y gs
  fewer_in_disjuncts X Y no_formulas f h = tt
  fewer_in_disjuncts X Y (formula_then g gs) f h = (fewer_names X Y g f h.0, fewer_in_disjuncts X Y gs f h.1)

-- what is around a part, as its occurrences and its names
parted : (X E vs occur names : List ℕ) → Among ((X ++ (vs ++ occur)) ++ (E ++ names)) ((X ++ E) ++ (vs ++ (occur ++ names)))
parted X E vs occur names =
    let R = (X ++ E) ++ (vs ++ (occur ++ names)) in
    let more : Among (vs ++ (occur ++ names)) R = λ x i. in_right x (X ++ E) (vs ++ (occur ++ names)) i in
    let old : Among (X ++ E) R = λ x i. in_left x (X ++ E) (vs ++ (occur ++ names)) i in
    both (X ++ (vs ++ occur)) (E ++ names) R
    (both X (vs ++ occur) R (λ x i. old x (in_left x X E i)) (both vs occur R (λ x i. more x (in_left x vs (occur ++ names) i)) (λ x i. more x (in_right x vs (occur ++ names) (in_left x occur names i)))))
    (both E names R (λ x i. old x (in_right x X E i)) (λ x i. more x (in_right x vs (occur ++ names) (in_right x occur names i))))

apart_quantified : (O vs : List ℕ) (g : Formula) → Apart vs O → NamedApart O g → NamedApart O (quantified vs g)
apart_quantified O [] g a h = h
apart_quantified O (v ∷ vs) g a h = (a, h)

-- variables that a goal quantifies by itself are nowhere outside
own_apart : (O X E : List ℕ) (g : Formula) (whole : List ℕ) → Around O X E whole → (Y : List ℕ) → Among X Y → Among (own Y g) whole → Apart (own Y g) O
own_apart O X E g whole h Y f o x i j = ⊎_elim (λ k. own_is_out x Y g i (f x k)) (λ k. h.elsewhere x k (o x i)) (in_either x X E (h.outside x j))

mutual
  apart_scoped : (O X E : List ℕ) (g : Formula) → Around O X E (mentioned g) → OwnNames (X ++ E) g → NamedApart O (scoped X g)
  apart_scoped O X E (Equal a b) r h = tt
  apart_scoped O X E (Call p ts) r h = tt
  apart_scoped O X E (And gs) r h = parts_apart O X E gs r h
  apart_scoped O X E (Or gs) r h = disjuncts_apart O X E gs r h
  apart_scoped O X E (If vs c t e) r h =
      let Xc = X ++ (vs ++ occurring t) in
      let Xt = X ++ (vs ++ occurring c) in
      let c' = scoped Xc c in
      let t' = scoped Xt t in
      let ws = own (X ++ vs) c' in
      let all = mentioned (If vs c t e) in
      let left_out = without (free_of c') (vs ++ ws) in
      let inside : Among left_out X = (written X (If vs c t e)).0 in
      let own_in : Among ws all = λ x i. condition_mentioned vs c t e x (in_left x (occurring c) (named_by_quantifiers c) (subst (λ l. In x l) (occurs Xc c) (own_occurs (X ++ vs) c' x i))) in
      let around_c : Around (O ++ (left_out ++ mentioned t')) Xc (E ++ named_by_quantifiers t) (mentioned c) =
      beside O X E all (mentioned c) vs (occurring t) (named_by_quantifiers t) (left_out ++ mentioned t') r (condition_mentioned vs c t e)
      (λ x i j. names_apart ((X ++ E) ++ (vs ++ mentioned c)) t h.2 x i (in_right x (X ++ E) (vs ++ mentioned c) (in_right x vs (mentioned c) j)))
      (both left_out (mentioned t') ((X ++ E) ++ (vs ++ mentioned t)) (λ x i. in_left x (X ++ E) (vs ++ mentioned t) (in_left x X E (inside x i))) (λ x i. in_right x (X ++ E) (vs ++ mentioned t) (in_right x vs (mentioned t) (scoped_mentions Xt t x i)))) in
      let around_t : Around (O ++ mentioned c') Xt (E ++ named_by_quantifiers c) (mentioned t) =
      beside O X E all (mentioned t) vs (occurring c) (named_by_quantifiers c) (mentioned c') r (then_mentioned vs c t e)
      (λ x i j. names_apart ((X ++ E) ++ (vs ++ mentioned t)) c h.1 x i (in_right x (X ++ E) (vs ++ mentioned t) (in_right x vs (mentioned t) j)))
      (λ x i. in_right x (X ++ E) (vs ++ mentioned c) (in_right x vs (mentioned c) (scoped_mentions Xc c x i))) in (
        (λ x i j. ⊎_elim (λ a. h.0 x a (r.outside x j)) (λ a. own_apart O X E c' all r (X ++ vs) (λ y b. in_left y X vs b) own_in x a j) (in_either x vs ws i)),
        apart_scoped (O ++ (left_out ++ mentioned t')) Xc (E ++ named_by_quantifiers t) c around_c
            (fewer_names ((X ++ E) ++ (vs ++ mentioned t)) (Xc ++ (E ++ named_by_quantifiers t)) c (parted X E vs (occurring t) (named_by_quantifiers t)) h.1),
        apart_scoped (O ++ mentioned c') Xt (E ++ named_by_quantifiers c) t around_t
            (fewer_names ((X ++ E) ++ (vs ++ mentioned c)) (Xt ++ (E ++ named_by_quantifiers c)) t (parted X E vs (occurring c) (named_by_quantifiers c)) h.2),
        apart_scoped O X E e (record { outside = r.outside; elsewhere = λ x i j. r.elsewhere x i (else_mentioned vs c t e x j) }) h.3,
      )
  apart_scoped O X E (Not g) r h =
      let g' = scoped X g in
      let ws = own X g' in
      let fs = free_of (quantified ws g') in
      let inside : Among fs X = (written X (Not g)).0 in
      let around : Around (O ++ fs) X E (mentioned g) = record { outside = both O fs (X ++ E) r.outside (λ x i. in_left x X E (inside x i)); elsewhere = r.elsewhere } in
      apart_quantified (O ++ fs) ws g' (own_apart (O ++ fs) X E g' (mentioned g) around X (λ x i. i) (λ x i. in_left x (occurring g) (named_by_quantifiers g) (subst (λ l. In x l) (occurs X g) (own_occurs X g' x i))))
      (apart_scoped (O ++ fs) X E g around h)
  apart_scoped O X E (Exists vs g) r h = (
    (λ x i j. h.0 x i (r.outside x j)),
    apart_scoped O (X ++ vs) E g
        (record {
          outside = λ x i. ⊎_elim (λ j. in_left x (X ++ vs) E (in_left x X vs j)) (λ j. in_right x (X ++ vs) E j) (in_either x X E (r.outside x i));
          elsewhere = λ x i j. r.elsewhere x i (under_mentioned vs g x j);
        })
        (fewer_names ((X ++ E) ++ vs) ((X ++ vs) ++ E) g
        (both (X ++ vs) E ((X ++ E) ++ vs) (both X vs ((X ++ E) ++ vs) (λ x i. in_left x (X ++ E) vs (in_left x X E i)) (λ x i. in_right x (X ++ E) vs i)) (λ x i. in_left x (X ++ E) vs (in_right x X E i))) h.1),
  )

  parts_apart : (O X E : List ℕ) (gs : Formulas) → Around O X E (all_mentioned gs) → PartsOwnNames (X ++ E) gs → PartsNamedApart O (scoped_parts X gs)
  parts_apart O X E no_formulas r h = tt
  parts_apart O X E (formula_then g gs) r h =
      let Xg = X ++ occurring_all gs in
      let Xs = X ++ occurring g in
      let all = all_mentioned (formula_then g gs) in
      let around_g : Around (O ++ all_mentioned (scoped_parts Xs gs)) Xg (E ++ named_by_quantifiers_of_all gs) (mentioned g) =
      beside O X E all (mentioned g) [] (occurring_all gs) (named_by_quantifiers_of_all gs) (all_mentioned (scoped_parts Xs gs)) r (first_mentioned g gs)
      (λ x i j. all_names_apart ((X ++ E) ++ mentioned g) gs h.1 x i (in_right x (X ++ E) (mentioned g) j)) (λ x i. in_right x (X ++ E) (all_mentioned gs) (parts_mention Xs gs x i)) in
      let around_gs : Around (O ++ mentioned (scoped Xg g)) Xs (E ++ named_by_quantifiers g) (all_mentioned gs) =
      beside O X E all (all_mentioned gs) [] (occurring g) (named_by_quantifiers g) (mentioned (scoped Xg g)) r (rest_mentioned g gs)
      (λ x i j. names_apart ((X ++ E) ++ all_mentioned gs) g h.0 x i (in_right x (X ++ E) (all_mentioned gs) j)) (λ x i. in_right x (X ++ E) (mentioned g) (scoped_mentions Xg g x i)) in (
        apart_scoped (O ++ all_mentioned (scoped_parts Xs gs)) Xg (E ++ named_by_quantifiers_of_all gs) g around_g
            (fewer_names ((X ++ E) ++ all_mentioned gs) (Xg ++ (E ++ named_by_quantifiers_of_all gs)) g (parted X E [] (occurring_all gs) (named_by_quantifiers_of_all gs)) h.0),
        parts_apart (O ++ mentioned (scoped Xg g)) Xs (E ++ named_by_quantifiers g) gs around_gs
            (fewer_in_parts ((X ++ E) ++ mentioned g) (Xs ++ (E ++ named_by_quantifiers g)) gs (parted X E [] (occurring g) (named_by_quantifiers g)) h.1),
      )

  disjuncts_apart : (O X E : List ℕ) (gs : Formulas) → Around O X E (all_mentioned gs) → DisjunctsOwnNames (X ++ E) gs → DisjunctsNamedApart O (scoped_disjuncts X gs)
  disjuncts_apart O X E no_formulas r h = tt
  disjuncts_apart O X E (formula_then g gs) r h = (
    apart_scoped O X E g (record { outside = r.outside; elsewhere = λ x i j. r.elsewhere x i (first_mentioned g gs x j) }) h.0,
    disjuncts_apart O X E gs (record { outside = r.outside; elsewhere = λ x i j. r.elsewhere x i (rest_mentioned g gs x j) }) h.1,
  )

pub scoped_named_apart : ScopedNamedApart
scoped_named_apart c h =
    let head = variables_in_all (expressions c.head) in
    apart_scoped head head [] c.body (record { outside = λ x i. in_left x head [] i; elsewhere = λ x i j. i }) (fewer_names head (head ++ []) c.body (both head [] head (λ x i. i) (λ x i. absurd i)) h)
