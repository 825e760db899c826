-- The types that are met under a union over a row: finitely many, up to those of the row, where
-- each union has a rank that never rises.
use Rattle.std.proofs.Common.{◌≡◌, ◌⊎◌, inl, inr, ℕ, zero, suc, ◌<◌, ◌≤◌, Bool, true, false, cond, nat_eq, ◌&&◌, List, [], ◌∷◌, map, Some, None, refl, sym, ap, ◌∙◌, subst, arith, ⊎_elim}
use Rattle.std.proofs.lemmas.Bool.{cases_lt}
use Rattle.std.proofs.lemmas.Option.{none-some, same_Some}
use Rattle.mc_program.specs.Programs.{TypeTerm, int_type, char_type, string_type, state_type, variable_type, union_type, TypeTerms, no_types, Source}
use Rattle.mc_model.specs.Types.{argument_types, type_at, instance_of, instances_of}
use Rattle.mc_model.specs.Lists.{is_in}
use Rattle.mc_components.proofs.Certified.{in_cases}
use Rattle.mc_type_table.specs.Rules.{is_closed, is_variable, are_plain}
use Rattle.laws_order.proofs.Telling.{numbers_told, bools_told, Held, held_left, held_right}
use Rattle.laws_modes.specs.Regular.{arguments_among, body}
use Rattle.laws_modes.proofs.Finite.{Finite, none, one, either, over, where_told, listed, below}
use Rattle.laws_modes.proofs.Parts.{Among, PartOf, own_part, inner_part, finite_parts, finite_row, closed_stays, among_instances, at_variable, Row, finite_rows, row_among, row_of, row_of_instances, plain_among}

pub held_of_map :
    {A B : Type 0} (f : A → B) (xs : List A) (y : B)
    → Held (map f xs) y → (x : A) × Held xs x × (y ≡ f x)
held_of_map f [] y h = absurd h
held_of_map f (x ∷ xs) y (inl e) = (x, inl refl, e)
held_of_map f (x ∷ xs) y (inr h) = let r = held_of_map f xs y h in (r.0, inr r.1, r.2)

module _ (P : Source) where
  -- v is the type of an argument under x
  abbrev pub Met : TypeTerm → TypeTerm → Type 0
  Met x v = (s : ℕ) × ((us : List TypeTerm) × (argument_types P s x ≡ Some us) × Held us v)

  abbrev own_arguments : (u s : ℕ) → List TypeTerm
  own_arguments u s = cond (nat_eq (P.symbols s).of_type u) (P.symbols s).args []

  among_arguments :
      (u : ℕ) (ss : List ℕ) (s : ℕ) (a : TypeTerm)
      → is_in s ss ≡ true → nat_eq (P.symbols s).of_type u ≡ true → Held (P.symbols s).args a
      → Held (arguments_among P u ss) a
  among_arguments u [] s a i e h = absurd (let clash : false ≡ true = i in cc)
  among_arguments u (q ∷ ss) s a i e h =
      ⊎_elim
      (λ same.
      held_left (own_arguments u q) (arguments_among P u ss) a
      (subst (λ b. Held (cond b (P.symbols q).args []) a)
      (sym (subst (λ k. nat_eq (P.symbols k).of_type u ≡ true) same e))
      (subst (λ k. Held (P.symbols k).args a) same h)))
      (λ later.
      held_right (own_arguments u q) (arguments_among P u ss) a
      (among_arguments u ss s a later e h)) (in_cases s q ss i)

  abbrev given : TypeTerms → ℕ → List TypeTerm
  given ts s = map (instance_of (type_at ts)) (P.symbols s).args

  met_under_union :
      (u : ℕ) (ts : TypeTerms) (v : TypeTerm)
      → Met (union_type u ts) v
      → (a : TypeTerm) × Held (body P u) a × (v ≡ instance_of (type_at ts) a)
  met_under_union u ts v m =
      at (nat_eq (P.symbols m.0).of_type u) (is_in m.0 (P.symbols_of u)) refl refl m.1.1
    where
      at :
          (b c : Bool) → nat_eq (P.symbols m.0).of_type u ≡ b → is_in m.0 (P.symbols_of u) ≡ c
          → cond (b && c) (Some (given ts m.0)) None ≡ Some m.1.0
          → (a : TypeTerm) × Held (body P u) a × (v ≡ instance_of (type_at ts) a)
      at true true e i is =
          let r =
          held_of_map (instance_of (type_at ts)) (P.symbols m.0).args v
          (subst (λ us. Held us v) (sym (same_Some (given ts m.0) m.1.0 is)) m.1.2)
          in
          (r.0, among_arguments u (P.symbols_of u) m.0 r.0 i e r.1, r.2)
      at true false e i is = absurd (none-some m.1.0 is)
      at false c e i is = absurd (none-some m.1.0 is)

  pub met_under_variable : (k : ℕ) (v : TypeTerm) → Met (variable_type k) v → v ≡ variable_type k
  met_under_variable k v m =
      let types = map (λ (t : TypeTerm). variable_type k) (P.symbols m.0).args in
      (held_of_map (λ (t : TypeTerm). variable_type k) (P.symbols m.0).args v
      (subst (λ us. Held us v) (sym (same_Some types m.1.0 m.1.1)) m.1.2)).2

  -- no type is met under a builtin one
  abbrev pub MetUnderNone : TypeTerm → Type 0
  MetUnderNone x = (v : TypeTerm) → Met x v → ⊥

  pub under_int : MetUnderNone int_type
  under_int v m = none-some m.1.0 m.1.1

  pub under_char : MetUnderNone char_type
  under_char v m = none-some m.1.0 m.1.1

  pub under_string : MetUnderNone string_type
  under_string v m = none-some m.1.0 m.1.1

  pub under_state : MetUnderNone state_type
  under_state v m = none-some m.1.0 m.1.1

  -- A union in the body of another has a lower rank, or the same, and then arguments that are
  -- plain; the unions are numbered below a bound.
  pub record Ranked (bound : ℕ) (rank : ℕ → ℕ) : Type 0 where
    pub end : (u : ℕ) (a : TypeTerm) → bound ≤ u → Held (body P u) a → ⊥
    pub falls :
        (u : ℕ) (a : TypeTerm) (w : ℕ) (bs : TypeTerms)
        → w < bound → Held (body P u) a → PartOf a (union_type w bs)
        → (rank w < rank u) ⊎ ((rank w ≡ rank u) × (are_plain bs ≡ true))

  -- a list that has a type, and with each type but those of its row what is met under it
  pub record Under (u : ℕ) (ts : TypeTerms) : Type 0 where
    pub types : List TypeTerm
    pub itself : Held types (union_type u ts)
    pub first : (v : TypeTerm) → Met (union_type u ts) v → Held types v
    pub closed :
        (x : TypeTerm) → Held types x
        → Among ts x ⊎ ((v : TypeTerm) → Met x v → Held types v)

  module _ (n : ℕ) (rank : ℕ → ℕ) (are : Ranked n rank) where
    -- a union of one rank, where those of lower ranks are done
    module _
        (r : ℕ) (lower : (w : ℕ) (cs : TypeTerms) → rank w < r → Under w cs) (u : ℕ)
        (ts : TypeTerms) (is : rank u ≡ r) where
      -- b stands in a body of the rank
      abbrev Stands : TypeTerm → Type 0
      Stands b =
          (w : ℕ) × (w < n)
          × ((rank w ≡ r) × ((a : TypeTerm) × Held (body P w) a × PartOf a b))

      finite_stands : Finite Stands
      finite_stands =
          over (λ w. w < n)
          (λ w b. (rank w ≡ r) × ((a : TypeTerm) × Held (body P w) a × PartOf a b)) (below n)
          (λ w.
          where_told (rank w ≡ r) (λ b. (a : TypeTerm) × Held (body P w) a × PartOf a b)
          (numbers_told (rank w) r)
          (over (Held (body P w)) (λ a b. PartOf a b) (listed (body P w)) finite_parts))

      inside :
          (w : ℕ) (bs : TypeTerms) (b : TypeTerm)
          → Stands (union_type w bs) → Among bs b → Stands b
      inside w bs b st h =
          (st.0, st.1, (st.2.0, (st.2.1.0, st.2.1.1, inner_part st.2.1.0 w bs b st.2.1.2 h)))

      -- the types that stand for variables: those of the row, variables, closed types of bodies
      abbrev Low : TypeTerm → TypeTerm → Type 0
      Low (variable_type k) x = (i : ℕ) × (i < suc k) × (x ≡ variable_type i)
      Low t x = ⊥

      abbrev Closed : TypeTerm → TypeTerm → Type 0
      Closed y x = (is_closed y ≡ true) × (x ≡ y)

      abbrev Element : TypeTerm → Type 0
      Element x =
          Among ts x
          ⊎ (((y : TypeTerm) × Stands y × Low y x) ⊎ ((y : TypeTerm) × Stands y × Closed y x))

      finite_low : (y : TypeTerm) → Finite (Low y)
      finite_low (variable_type k) =
          over (λ i. i < suc k) (λ i x. x ≡ variable_type i) (below (suc k))
          (λ i. one (variable_type i))
      finite_low int_type = none
      finite_low char_type = none
      finite_low string_type = none
      finite_low state_type = none
      finite_low (union_type w bs) = none

      finite_elements : Finite Element
      finite_elements =
          either (Among ts)
          (λ x. ((y : TypeTerm) × Stands y × Low y x) ⊎ ((y : TypeTerm) × Stands y × Closed y x))
          (finite_row ts)
          (either (λ x. (y : TypeTerm) × Stands y × Low y x)
          (λ x. (y : TypeTerm) × Stands y × Closed y x)
          (over Stands Low finite_stands finite_low)
          (over Stands Closed finite_stands
          (λ y. where_told (is_closed y ≡ true) (λ x. x ≡ y) (bools_told (is_closed y)) (one y))))

      -- the types of the rank over such
      abbrev Like : TypeTerm → TypeTerm → Type 0
      Like (union_type w shape) x =
          (rank w ≡ r) × ((row : TypeTerms) × Row Element shape row × (x ≡ union_type w row))
      Like t x = ⊥

      abbrev Top : TypeTerm → Type 0
      Top y = (y ≡ union_type u ts) ⊎ Stands y

      abbrev Same : TypeTerm → Type 0
      Same x = (y : TypeTerm) × Top y × Like y x

      finite_like : (y : TypeTerm) → Finite (Like y)
      finite_like (union_type w shape) =
          where_told (rank w ≡ r)
          (λ x. (row : TypeTerms) × Row Element shape row × (x ≡ union_type w row))
          (numbers_told (rank w) r)
          (over (Row Element shape) (λ row x. x ≡ union_type w row)
          (finite_rows Element finite_elements shape) (λ row. one (union_type w row)))
      finite_like int_type = none
      finite_like char_type = none
      finite_like string_type = none
      finite_like state_type = none
      finite_like (variable_type k) = none

      finite_same : Finite Same
      finite_same =
          over Top Like
          (either (λ y. y ≡ union_type u ts) Stands (one (union_type u ts)) finite_stands)
          finite_like

      -- what stands in bodies, over a row of such a type
      abbrev row_in : TypeTerm → TypeTerms
      row_in (union_type w row) = row
      row_in t = no_types

      abbrev put : TypeTerm → ℕ → TypeTerm
      put c = type_at (row_in c)

      abbrev Made : TypeTerm → Type 0
      Made x =
          (c : TypeTerm) × Same c
          × ((b : TypeTerm) × Stands b × (x ≡ instance_of (put c) b))

      -- what is met under those of lower ranks
      abbrev types_by :
          (w : ℕ) (cs : TypeTerms) → (rank w < r) ⊎ (r ≤ rank w) → List TypeTerm
      types_by w cs (inl less) = (lower w cs less).types
      types_by w cs (inr past) = []

      abbrev lower_types : (ℕ → TypeTerm) → TypeTerm → List TypeTerm
      lower_types f (union_type w bs) = types_by w (instances_of f bs) (cases_lt (rank w) r)
      lower_types f t = []

      abbrev Deeper : TypeTerm → Type 0
      Deeper x =
          (c : TypeTerm) × Same c
          × ((b : TypeTerm) × Stands b × Held (lower_types (put c) b) x)

      abbrev All : TypeTerm → Type 0
      All x = Same x ⊎ (Made x ⊎ Deeper x)

      finite_all : Finite All
      finite_all =
          either Same (λ x. Made x ⊎ Deeper x) finite_same
          (either Made Deeper
          (over Same (λ c x. (b : TypeTerm) × Stands b × (x ≡ instance_of (put c) b)) finite_same
          (λ c.
          over Stands (λ b x. x ≡ instance_of (put c) b) finite_stands
          (λ b. one (instance_of (put c) b))))
          (over Same (λ c x. (b : TypeTerm) × Stands b × Held (lower_types (put c) b) x) finite_same
          (λ c.
          over Stands (λ b x. Held (lower_types (put c) b) x) finite_stands
          (λ b. listed (lower_types (put c) b)))))

      -- THE LIST IS CLOSED

      abbrev SaidOf : TypeTerm → Type 0
      SaidOf c =
          (w : ℕ) × ((row : TypeTerms) × (c ≡ union_type w row)
          × ((rank w ≡ r) × ((x : TypeTerm) → Among row x → Element x)))

      said_by : (y c : TypeTerm) → Like y c → SaidOf c
      said_by (union_type w shape) c l =
          (w, (l.1.0, l.1.2, (l.0, λ x h. row_among Element shape l.1.0 x l.1.1 h)))
      said_by int_type c l = absurd l
      said_by char_type c l = absurd l
      said_by string_type c l = absurd l
      said_by state_type c l = absurd l
      said_by (variable_type k) c l = absurd l

      under_said :
          (c v : TypeTerm) (said : SaidOf c) (a : TypeTerm)
          → Same c → Held (body P said.0) a → v ≡ instance_of (type_at said.1.0) a
          → (said.0 < n) ⊎ (n ≤ said.0) → Made v
      under_said c v said a same h e (inl less) = (
        c,
        same,
        (
          a,
          (said.0, less, (said.1.2.0, (a, h, own_part a))),
          e ∙ ap (λ x. instance_of (put x) a) (sym said.1.1),
        ),
      )
      under_said c v said a same h e (inr past) = absurd (are.end said.0 a past h)

      under_same : (c v : TypeTerm) → Same c → Met c v → Made v
      under_same c v same m =
          let said = said_by same.0 c same.2 in
          let met = met_under_union said.0 said.1.0 v (subst (λ x. Met x v) said.1.1 m) in
          under_said c v said met.0 same met.1 met.2 (cases_lt said.0 n)

      variable_put : (c : TypeTerm) (k : ℕ) → Same c → Stands (variable_type k) → Element (put c k)
      variable_put c k same st =
          let said = said_by same.0 c same.2 in
          subst (λ x. Element (put x k)) (sym said.1.1)
          (at_variable Element said.1.0 k said.1.2.1
          (λ i le. inr (inl (variable_type k, st, (i, omega (arith, le), refl)))))

      plain_put :
          (c b : TypeTerm)
          → Same c → Stands b → (is_variable b ≡ true) ⊎ (is_closed b ≡ true)
          → Element (instance_of (put c) b)
      plain_put c b same st (inr closed) =
          inr (inr (b, st, (closed, closed_stays (put c) b closed)))
      plain_put c (variable_type k) same st (inl v) = variable_put c k same st
      plain_put c int_type same st (inl v) = absurd (let clash : false ≡ true = v in cc)
      plain_put c char_type same st (inl v) = absurd (let clash : false ≡ true = v in cc)
      plain_put c string_type same st (inl v) = absurd (let clash : false ≡ true = v in cc)
      plain_put c state_type same st (inl v) = absurd (let clash : false ≡ true = v in cc)
      plain_put c (union_type w bs) same st (inl v) = absurd (let clash : false ≡ true = v in cc)

      lower_first :
          (w : ℕ) (cs : TypeTerms) (v : TypeTerm) (d : (rank w < r) ⊎ (r ≤ rank w))
          → rank w < r → Met (union_type w cs) v → Held (types_by w cs d) v
      lower_first w cs v (inl less) l m = (lower w cs less).first v m
      lower_first w cs v (inr past) l m = absurd (omega (arith, past, l))

      lower_closed :
          (w : ℕ) (cs : TypeTerms) (x : TypeTerm) (d : (rank w < r) ⊎ (r ≤ rank w))
          → Held (types_by w cs d) x
          → Among cs x ⊎ ((v : TypeTerm) → Met x v → Held (types_by w cs d) v)
      lower_closed w cs x (inl less) h = (lower w cs less).closed x h
      lower_closed w cs x (inr past) h = absurd h

      under_union_made :
          (c : TypeTerm) (w : ℕ) (bs : TypeTerms) (v : TypeTerm)
          → Same c → Stands (union_type w bs)
          → Met (union_type w (instances_of (put c) bs)) v → All v
      under_union_made c w bs v same st m =
          ⊎_elim (λ less. at (are.falls st.0 st.2.1.0 w bs less st.2.1.1 st.2.1.2))
          (λ past.
          let met = met_under_union w (instances_of (put c) bs) v m in
          absurd (are.end w met.0 past met.1)) (cases_lt w n)
        where
          at : (rank w < rank st.0) ⊎ ((rank w ≡ rank st.0) × (are_plain bs ≡ true)) → All v
          at (inl less) =
              let falls : rank w < r = omega (arith, less, st.2.0) in
              let there = lower_first w (instances_of (put c) bs) v (cases_lt (rank w) r) falls m in
              inr (inr (c, same, (union_type w bs, st, there)))
          at (inr level) =
              let row = instances_of (put c) bs in
              let each : (b : TypeTerm) → Among bs b → Element (instance_of (put c) b) =
              λ b h. plain_put c b same (inside w bs b st h) (plain_among bs b level.1 h)
              in
              let it : Same (union_type w row) = (
                union_type w bs,
                inr st,
                (level.0 ∙ st.2.0, (row, row_of_instances Element (put c) bs each, refl)),
              ) in
              inr (inl (under_same (union_type w row) v it m))

      under_closed :
          (c y v : TypeTerm) → Same c → Stands y → is_closed y ≡ true → Met y v → All v
      under_closed c (union_type w bs) v same st closed m =
          under_union_made c w bs v same st
          (subst (λ x. Met x v) (sym (closed_stays (put c) (union_type w bs) closed)) m)
      under_closed c int_type v same st closed m = absurd (under_int v m)
      under_closed c char_type v same st closed m = absurd (under_char v m)
      under_closed c string_type v same st closed m = absurd (under_string v m)
      under_closed c state_type v same st closed m = absurd (under_state v m)
      under_closed c (variable_type k) v same st closed m =
          absurd (let clash : false ≡ true = closed in cc)

      under_low : (y x v : TypeTerm) → Low y x → Made x → Met x v → All v
      under_low (variable_type k) x v l made m =
          let same : v ≡ x =
          met_under_variable l.0 v (subst (λ y. Met y v) l.2 m) ∙ sym l.2
          in
          inr (inl (subst Made (sym same) made))
      under_low int_type x v l made m = absurd l
      under_low char_type x v l made m = absurd l
      under_low string_type x v l made m = absurd l
      under_low state_type x v l made m = absurd l
      under_low (union_type w bs) x v l made m = absurd l

      abbrev IsDone : TypeTerm → Type 0
      IsDone x = Among ts x ⊎ ((v : TypeTerm) → Met x v → All v)

      element_done : (c x : TypeTerm) → Same c → Element x → Made x → IsDone x
      element_done c x same (inl h) made = inl h
      element_done c x same (inr (inl l)) made = inr (λ v m. under_low l.0 x v l.2 made m)
      element_done c x same (inr (inr k)) made =
          inr
          (λ v m. under_closed c k.0 v same k.1 k.2.0 (subst (λ y. Met y v) k.2.1 m))

      none_met : (x b : TypeTerm) → MetUnderNone b → x ≡ b → IsDone x
      none_met x b n e = inr (λ v m. absurd (n v (subst (λ y. Met y v) e m)))

      instance_done :
          (c b x : TypeTerm) → Same c → Stands b → x ≡ instance_of (put c) b → IsDone x
      instance_done c int_type x same st e = none_met x int_type under_int e
      instance_done c char_type x same st e = none_met x char_type under_char e
      instance_done c string_type x same st e = none_met x string_type under_string e
      instance_done c state_type x same st e = none_met x state_type under_state e
      instance_done c (variable_type k) x same st e =
          element_done c x same (subst Element (sym e) (variable_put c k same st))
          (c, same, (variable_type k, st, e))
      instance_done c (union_type w bs) x same st e =
          inr (λ v m. under_union_made c w bs v same st (subst (λ y. Met y v) e m))

      deeper_done :
          (c b x : TypeTerm) → Same c → Stands b → Held (lower_types (put c) b) x → IsDone x
      deeper_done c (union_type w bs) x same st h =
          at (lower_closed w (instances_of (put c) bs) x (cases_lt (rank w) r) h)
        where
          at :
              Among (instances_of (put c) bs) x
              ⊎ ((v : TypeTerm) → Met x v → Held (lower_types (put c) (union_type w bs)) v)
              → IsDone x
          at (inl h) =
              let a = among_instances (put c) bs x h in
              instance_done c a.0 x same (inside w bs a.0 st a.1) a.2
          at (inr f) = inr (λ v m. inr (inr (c, same, (union_type w bs, st, f v m))))
      deeper_done c int_type x same st h = absurd h
      deeper_done c char_type x same st h = absurd h
      deeper_done c string_type x same st h = absurd h
      deeper_done c state_type x same st h = absurd h
      deeper_done c (variable_type k) x same st h = absurd h

      all_done : (x : TypeTerm) → All x → IsDone x
      all_done x (inl same) = inr (λ v m. inr (inl (under_same x v same m)))
      all_done x (inr (inl made)) = instance_done made.0 made.2.0 x made.1 made.2.1 made.2.2
      all_done x (inr (inr deep)) = deeper_done deep.0 deep.2.0 x deep.1 deep.2.1 deep.2.2

      it_is_same : Same (union_type u ts)
      it_is_same =
          (union_type u ts, inl refl, (is, (ts, row_of Element ts (λ x h. inl h), refl)))

      under_level : Under u ts
      under_level =
          record {
            types = finite_all.all;
            itself = finite_all.has (union_type u ts) (inl it_is_same);
            first =
                λ v m. finite_all.has v (inr (inl (under_same (union_type u ts) v it_is_same m)));
            closed =
                λ x h.
                ⊎_elim (λ a. inl a) (λ f. inr (λ v m. finite_all.has v (f v m)))
                (all_done x (finite_all.only x h));
          }

    pub under : (r u : ℕ) (ts : TypeTerms) → rank u < r → Under u ts
    under zero u ts l = absurd (omega (arith, l))
    under (suc r) u ts l =
        ⊎_elim (λ less. under r u ts less)
        (λ past. under_level r (λ w cs k. under r w cs k) u ts (omega (arith, l, past)))
        (cases_lt (rank u) r)
