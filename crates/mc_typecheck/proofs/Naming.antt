-- Steps of one meaning each, whose types are names without arguments.
use Rattle.std.proofs.Common.{◌≡◌, ℕ, zero, suc, ◌+◌, ◌-◌, ◌<◌, List, [], ◌∷◌, ◌++◌, length, get_or, map, take, drop, cond, Bool, sym, ◌∙◌, ap, ap₂, refl, subst, inl, inr, arith, length-append, append_assoc, append-nil}
use Rattle.std.specs.Prelude.{◌↔◌}
use Rattle.std.proofs.lemmas.Bool.{cases_eq, cases_lt, eq-eqb}
use Rattle.std.proofs.lemmas.List.{get_or_past, get_or_append_left, get_or-append_right, length-map, get_or-map, same_lists, drop_all, take_all}
use Rattle.mc_program.specs.Programs.{TypeTerm, variable_type, Source}
use Rattle.mc_program.specs.PlainPrograms.{plain_type}
use Rattle.mc_program.specs.declared.ty.Ty.{Ty, Int}
use Rattle.mc_accepted.specs.ProperTypes.{Parameters}
use Rattle.mc_source.specs.declared.name.Candidate.{Candidate}
use Rattle.mc_types.specs.declared.cells.TypeName.{TypeName}
use Rattle.mc_types.specs.declared.cells.TypeName.TheVariants as N
use Rattle.mc_types.specs.Trees.{of_name}
use Rattle.mc_types.specs.Substitutions.{under}
use Rattle.mc_types.specs.declared.signature.Signature.{Signature}
use Rattle.mc_types.specs.declared.written_types.Written.{Written, Free}
use Rattle.mc_typecheck.specs.Ties.{Meaning, of_name as of_candidate, of_equation, Declared, Tie, declared, offered, sole, named, topmost, below, pick_of}
use Rattle.mc_typecheck.specs.Searched.{plain_signature}
use Rattle.mc_typecheck.specs.WrittenTypes.{type_written}
use Rattle.mc_typecheck.specs.Walked.{Stand}
use Rattle.mc_typecheck.specs.NamedWalks.{Suits, known, EachOwn, Solves, first_meaning, EachSole, first_picks, EachSuited, AreKnown, IsNamedAt}
use Rattle.mc_typecheck.specs.code.Named.{free_types, IsNamed, AreNamed, IsTaken, IsPushed}
use Rattle.mc_typecheck.specs.declared.named.NamedWalk.{NamedWalk}
use Rattle.mc_typecheck.proofs.Suiting.{map_both}

-- NOTHING IS KNOWN

pub free_long : (n : ℕ) → length (free_types n) ≡ n
free_long zero = refl
free_long (suc n) = omega (arith, length-append (free_types n) (Free n ∷ []), free_long n)

-- one place more
known_more : (types : List Written) (n i : ℕ) → n ≡ length types → known (types ++ Free n ∷ []) i ≡ known types i
known_more types n i long = elim (cases_lt i n) [
  | inl lt ↦ get_or_append_left types (Free n ∷ []) (Free i) i (omega (arith, long))
  | inr ge ↦ elim (cases_eq i n) [
    | inl e ↦
        get_or-append_right types (Free n ∷ []) (length types) i (Free i) refl (omega (arith, long))
        ∙ (let none : i - length types ≡ 0 = omega (arith, long) in ap (λ k. get_or (Free n ∷ []) k (Free i)) none)
        ∙ ap Free (sym e)
        ∙ sym (get_or_past types i (Free i) (omega (arith, long)))
    | inr ne ↦
        get_or_past (types ++ Free n ∷ []) i (Free i) (omega (arith, length-append types (Free n ∷ []), long))
        ∙ sym (get_or_past types i (Free i) (omega (arith, long)))
  ]
]

free_known : (n i : ℕ) → known (free_types n) i ≡ Free i
free_known zero i = refl
free_known (suc n) i = known_more (free_types n) n i (sym (free_long n)) ∙ free_known n i

pub free_next : (n : ℕ) → free_types (n + 1) ≡ free_types n ++ Free n ∷ []
free_next n = let next : n + 1 ≡ suc n = omega arith in ap free_types next

-- PLACES OF A STEP

name_under : (n : ℕ) (σ : ℕ → TypeTerm) (name : TypeName) → under n σ (of_name name) ≡ of_name name
name_under n σ N.Int = refl
name_under n σ N.Char = refl
name_under n σ N.Str = refl
name_under n σ N.Io = refl
name_under n σ (N.Union u) = refl

-- the first places have these types
abbrev AreAt : (ℕ → TypeTerm) → List Ty → List ℕ → ℕ → Type 0
AreAt τ types places k = (j : ℕ) (d : Ty) (e : ℕ) → j < k → plain_type (get_or types j d) ≡ τ (get_or places j e)

-- and were given them
pub record PlacesNamed (first now : List Written) (types : List Ty) (places : List ℕ) (k : ℕ) : Type 0 where
  pub names : (j : ℕ) (d : Ty) → j < k → (n : TypeName) × (plain_type (get_or types j d) ≡ of_name n)
  pub own : EachOwn first → EachOwn now
  pub means : EachOwn first → (τ : ℕ → TypeTerm) → Solves τ now ↔ (Solves τ first × AreAt τ types places k)

pub places_first : (first : List Written) (types : List Ty) (places : List ℕ) → PlacesNamed first first types places 0
places_first first types places = record {
  names = λ j d lt. let no : ⊥ = omega arith in absurd no;
  own = λ own. own;
  means = λ own τ. ((λ s. (s, (λ j d e lt. let no : ⊥ = omega arith in absurd no))), (λ p. p.0));
}

pub places_more : (first now : List Written) (types : List Ty) (places : List ℕ) (k : ℕ) → PlacesNamed first now types places k → (ty : Ty) (place : ℕ) → ((d : Ty) → get_or types k d ≡ ty) → ((e : ℕ) → get_or places k e ≡ place) → (after : List Written) → IsNamed now place (plain_type ty) after → PlacesNamed first after types places (k + 1)
places_more first now types places k f ty place at_types at_places after one = record {
  names = λ j d lt. elim (cases_eq j k) [
    | inl e ↦ (one.name, ap (λ i. plain_type (get_or types i d)) e ∙ ap plain_type (at_types d) ∙ one.is)
    | inr ne ↦ f.names j d (omega arith)
  ];
  own = λ own. one.own (f.own own);
  means = λ own τ. (
    (λ s.
        let m = (one.means (f.own own) τ).0 s in
        let b = (f.means own τ).0 m.0 in (
          b.0,
          (λ j d e lt. elim (cases_eq j k) [
            | inl je ↦
                ap (λ i. plain_type (get_or types i d)) je
                ∙ ap plain_type (at_types d)
                ∙ sym m.1
                ∙ sym (ap τ (ap (λ i. get_or places i e) je ∙ at_places e))
            | inr ne ↦ b.1 j d e (omega arith)
          ]),
        )),
    (λ p. (one.means (f.own own) τ).1 (
      (f.means own τ).1 (p.0, (λ j d e lt. p.1 j d e (omega arith))),
      ap τ (sym (at_places 0)) ∙ sym (p.1 k Int 0 (omega arith)) ∙ ap plain_type (at_types Int),
    )),
  );
}

pub places_named : (first now : List Written) (signature : Signature) (places : List ℕ) (k : ℕ) → length signature.types.items ≡ length places → k ≡ length places → PlacesNamed first now signature.types.items places k → AreNamed first (plain_signature signature) places now
places_named first now signature places k len whole f =
    let n = signature.vars in
    let types = signature.types.items in
    let same : (σ : ℕ → TypeTerm) (j : ℕ) (d : Ty) → j < k → under n σ (plain_type (get_or types j d)) ≡ plain_type (get_or types j d) =
    λ σ j d lt. let name = f.names j d lt in ap (under n σ) name.1 ∙ name_under n σ name.0 ∙ sym name.1 in
    let through : (ℕ → TypeTerm) → Ty → TypeTerm = λ σ t. under n σ (plain_type t) in
    record {
      long = length-map types plain_type ∙ len;
      own = f.own;
      means = λ own τ. (
        (λ s.
            let b = (f.means own τ).0 s in
            let σ : ℕ → TypeTerm = λ v. variable_type v in (
              b.0,
              (
                σ,
                map_both plain_type (under n σ) types
                    ∙ same_lists (map (through σ) types) (map τ places) (length-map types (through σ) ∙ len ∙ sym (length-map places τ))
                    (λ j d lt.
                    let lt2 : j < length types = omega (arith, lt, length-map types (through σ)) in
                    get_or-map (through σ) types j Int d lt2
                    ∙ same σ j Int (omega (arith, lt2, len, whole))
                    ∙ b.1 j Int 0 (omega (arith, lt2, len, whole))
                    ∙ sym (get_or-map τ places j 0 d (omega (arith, lt2, len)))),
              ),
            )),
        (λ p. (f.means own τ).1 (
          p.0,
          (λ j d e lt.
              let σ = p.1.0 in
              sym (same σ j d lt)
              ∙ sym (get_or-map (through σ) types j d (variable_type 0) (omega (arith, lt, len, whole)))
              ∙ ap (λ ts. get_or ts j (variable_type 0)) (sym (map_both plain_type (under n σ) types) ∙ p.1.1)
              ∙ get_or-map τ places j e (variable_type 0) (omega (arith, lt, len, whole))),
        )),
      );
    }

-- A WALK

module _ (P : Source) (D : Parameters) where
  suited_more : (τ : ℕ → TypeTerm) (ties : List Tie) (t : Tie) → EachSuited P D τ ties → Suits (map τ t.places) (declared P D (first_meaning t)) → EachSuited P D τ (ties ++ t ∷ [])
  suited_more τ [] t h one = (one, tt)
  suited_more τ (x ∷ ties) t h one = (h.0, suited_more τ ties t h.1 one)

  suited_fewer : (τ : ℕ → TypeTerm) (ties : List Tie) (t : Tie) → EachSuited P D τ (ties ++ t ∷ []) → EachSuited P D τ ties × Suits (map τ t.places) (declared P D (first_meaning t))
  suited_fewer τ [] t h = (tt, h.0)
  suited_fewer τ (x ∷ ties) t h = let more = suited_fewer τ ties t h.1 in ((h.0, more.0), more.1)

  sole_more : (ties : List Tie) (t : Tie) → EachSole ties → length t.meanings ≡ 1 → EachSole (ties ++ t ∷ [])
  sole_more [] t h one = (one, tt)
  sole_more (x ∷ ties) t h one = (h.0, sole_more ties t h.1 one)

  picks_more : (ties : List Tie) (t : Tie) → first_picks (ties ++ t ∷ []) ≡ first_picks ties ++ pick_of (first_meaning t)
  picks_more [] t = append-nil (pick_of (first_meaning t))
  picks_more (x ∷ ties) t = ap (λ cs. pick_of (first_meaning x) ++ cs) (picks_more ties t) ∙ sym (append_assoc (pick_of (first_meaning x)) (first_picks ties) (pick_of (first_meaning t)))

  -- the only meaning of a tie
  pub record Means (t : Tie) (m : Meaning) (front : List ℕ) : Type 0 where
    pub places : t.places ≡ front
    pub sole : length (declared P D m).types ≡ length front → t.meanings ≡ m ∷ []

  pub sole_means : (m : Meaning) (front : List ℕ) → Means (sole P D m front) m front
  sole_means m front = record {
    places = refl;
    sole = λ e. ap (λ b. cond b (m ∷ []) []) (eq-eqb (length (declared P D m).types) (length front) e);
  }

  known_first : (n : ℕ) → AreKnown P D (free_types n) []
  known_first n = record {
    own = λ i. inl (free_known n i);
    sole = tt;
    means = λ τ. ((λ s. tt), (λ h i. sym (ap (type_written τ) (free_known n i))));
  }

  known_tied : (types after : List Written) (ties : List Tie) (t : Tie) (m : Meaning) (front : List ℕ) → AreKnown P D types ties → Means t m front → AreNamed types (declared P D m) front after → AreKnown P D after (ties ++ t ∷ [])
  known_tied types after ties t m front so means named =
      let is : t.meanings ≡ m ∷ [] = means.sole named.long in
      let first : first_meaning t ≡ m = ap (λ ms. get_or ms 0 of_equation) is in
      let Q : Meaning → List ℕ → (ℕ → TypeTerm) → Type 0 = λ x ps τ. Suits (map τ ps) (declared P D x) in
      record {
        own = named.own so.own;
        sole = sole_more ties t so.sole (ap length is);
        means = λ τ. (
          (λ s.
              let b = (named.means so.own τ).0 s in
              suited_more τ ties t ((so.means τ).0 b.0) (subst (λ x. Q x t.places τ) (sym first) (subst (λ ps. Q m ps τ) (sym means.places) b.1))),
          (λ h.
              let b = suited_fewer τ ties t h in
              (named.means so.own τ).1 ((so.means τ).1 b.0, subst (λ ps. Q m ps τ) means.places (subst (λ x. Q x t.places τ) first b.1))),
        );
      }

  -- it stands there, with picks of the next step
  pub record IsNear (w : NamedWalk) (s : Stand) (more : List Candidate) : Type 0 where
    pub next : length w.types.items ≡ s.next
    pub stack : w.stack.items ≡ s.stack
    pub picks : w.picks.items ≡ first_picks s.ties ++ more
    pub types : AreKnown P D w.types.items s.ties

  pub near : (w : NamedWalk) (s : Stand) → IsNamedAt P D w s → IsNear w s []
  near w s at = record { next = at.next; stack = at.stack; picks = at.picks ∙ sym (append-nil (first_picks s.ties)); types = at.types }

  picked_more : (s : Stand) (t : Tie) (m : Meaning) (front : List ℕ) (picks : List Candidate) → Means t m front → length (declared P D m).types ≡ length front → picks ≡ first_picks s.ties ++ pick_of m → picks ≡ first_picks (s.ties ++ t ∷ [])
  picked_more s t m front picks means long so =
      so ∙ ap (λ x. first_picks s.ties ++ pick_of x) (sym (ap (λ ms. get_or ms 0 of_equation) (means.sole long))) ∙ sym (picks_more s.ties t)

  pub named_first : (w : NamedWalk) (vars : ℕ) → w.types.items ≡ free_types vars → w.stack.items ≡ [] → w.picks.items ≡ [] → IsNamedAt P D w (record { next = vars; stack = []; ties = [] })
  named_first w vars types stack picks =
      let Q : List Written → Type 0 = λ ws. AreKnown P D ws [] in
      record { next = ap length types ∙ free_long vars; stack = stack; picks = picks; types = subst Q (sym types) (known_first vars) }

  pub named_taken : (w w' : NamedWalk) (s : Stand) (t : Tie) (m : Meaning) (n from : ℕ) → from ≡ length w.stack.items - n → Means t m (topmost n s.stack) → IsNear w s (pick_of m) → IsTaken (declared P D m) from w w' → IsNamedAt P D w' (record { next = s.next; stack = below n s.stack; ties = s.ties ++ t ∷ [] })
  named_taken w w' s t m n from e means at step =
      let top : drop from w.stack.items ≡ topmost n s.stack = ap (λ k. drop k w.stack.items) e ∙ ap (topmost n) at.stack in
      let Q : List ℕ → Type 0 = λ ps. AreNamed w.types.items (declared P D m) ps w'.types.items in
      let named = subst Q top step.named in
      record {
        next = step.as_many ∙ at.next;
        stack = step.stack ∙ ap (λ k. take k w.stack.items) e ∙ ap (below n) at.stack;
        picks = picked_more s t m (topmost n s.stack) w'.picks.items means named.long (step.picks ∙ at.picks);
        types = known_tied w.types.items w'.types.items s.ties t m (topmost n s.stack) at.types means named;
      }

  pub named_pushed : (w w' : NamedWalk) (s : Stand) (t : Tie) (m : Meaning) (from : ℕ) (front rest : List ℕ) → drop from s.stack ≡ front → take from s.stack ≡ rest → Means t m (front ++ s.next ∷ []) → IsNear w s (pick_of m) → IsPushed (declared P D m) from w w' → IsNamedAt P D w' (record { next = suc s.next; stack = rest ++ s.next ∷ []; ties = s.ties ++ t ∷ [] })
  named_pushed w w' s t m from front rest top low means at step =
      let places = front ++ s.next ∷ [] in
      let same : drop from w.stack.items ++ length w.types.items ∷ [] ≡ places = ap₂ (λ xs k. xs ++ k ∷ []) (ap (drop from) at.stack ∙ top) at.next in
      let Q : List ℕ → Type 0 = λ ps. AreNamed w.types.items (declared P D m) ps w'.types.items in
      let named = subst Q same step.named in
      record {
        next = omega (arith, step.as_many, at.next);
        stack = step.stack ∙ ap₂ (λ xs k. xs ++ k ∷ []) (ap (take from) at.stack ∙ low) at.next;
        picks = picked_more s t m places w'.picks.items means named.long (step.picks ∙ at.picks);
        types = known_tied w.types.items w'.types.items s.ties t m places at.types means named;
      }

  -- A CONSTANT AND A NAME

  pub named_constant : (w w' : NamedWalk) (s : Stand) (m : Meaning) → pick_of m ≡ [] → IsNamedAt P D w s → IsPushed (declared P D m) (length w.stack.items) w w' → IsNamedAt P D w' (record { next = suc s.next; stack = s.stack ++ s.next ∷ []; ties = s.ties ++ sole P D m (s.next ∷ []) ∷ [] })
  named_constant w w' s m none at step =
      let whole : length w.stack.items ≡ length s.stack = ap length at.stack in
      let Q : List Candidate → Type 0 = λ cs. IsNear w s cs in
      named_pushed w w' s (sole P D m (s.next ∷ [])) m (length w.stack.items) [] s.stack
      (drop_all (length w.stack.items) s.stack (omega (arith, whole))) (take_all (length w.stack.items) s.stack (omega (arith, whole)))
      (sole_means m (s.next ∷ [])) (subst Q (sym none) (near w s at)) step

  pub name_means : (test : Candidate → Bool) (cs : List Candidate) (front : List ℕ) (pick : Candidate) (count : ℕ) → count ≡ length front → offered P D test count [] cs ≡ of_candidate pick ∷ [] → Means (named P D test cs front) (of_candidate pick) front
  name_means test cs front pick count long is = record { places = refl; sole = λ e. ap (λ k. offered P D test k [] cs) (sym long) ∙ is }

  -- with the pick of a name
  pub nearer : (w w' : NamedWalk) (s : Stand) (pick : Candidate) → IsNamedAt P D w s → w'.types.items ≡ w.types.items → w'.stack.items ≡ w.stack.items → w'.picks.items ≡ w.picks.items ++ pick ∷ [] → IsNear w' s (pick ∷ [])
  nearer w w' s pick at types stack picks =
      let Q : List Written → Type 0 = λ ws. AreKnown P D ws s.ties in
      record {
        next = ap length types ∙ at.next;
        stack = stack ∙ at.stack;
        picks = picks ∙ ap (λ cs. cs ++ pick ∷ []) at.picks;
        types = subst Q (sym types) at.types;
      }

-- one place more, of which nothing is known
pub named_with_free : (types after : List Written) (n : ℕ) (d : Declared) (places : List ℕ) → n ≡ length types → AreNamed (types ++ Free n ∷ []) d places after → AreNamed types d places after
named_with_free types after n d places long f =
    let same : (i : ℕ) → known (types ++ Free n ∷ []) i ≡ known types i = λ i. known_more types n i long in
    let own : EachOwn types → EachOwn (types ++ Free n ∷ []) = λ h i. elim (h i) [
      | inl e ↦ inl (same i ∙ e)
      | inr e ↦ inr (e.0, same i ∙ e.1)
    ] in
    record {
      long = f.long;
      own = λ h. f.own (own h);
      means = λ h τ. (
        (λ s. let b = (f.means (own h) τ).0 s in ((λ i. b.0 i ∙ ap (type_written τ) (same i)), b.1)),
        (λ p. (f.means (own h) τ).1 ((λ i. p.0 i ∙ sym (ap (type_written τ) (same i))), p.1)),
      );
    }
