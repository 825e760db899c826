-- Nodes that mean one thing at a type answer alike what determinism asks.
use Rattle.std.proofs.Common.{◌≡◌, ◌⊎◌, inl, inr, ℕ, Bool, true, false, cond, not, nat_eq, ◌&&◌, ◌||◌, List, [], ◌∷◌, map, Some, None, refl, ap, ap₂, sym, ◌∙◌, ⊎_elim}
use Rattle.std.specs.Cmp.Lexicographic.{pointwise, bytes_decides}
use Rattle.std.proofs.lemmas.Bool.{eqb-true, eq-eqb, and_parts, and_from, or_left, or_right}
use Rattle.mc_program.specs.Values.{Val}
use Rattle.mc_program.specs.Programs.{TypeTerm, int_type, char_type, string_type, state_type, variable_type, union_type, TypeTerms, Source}
use Rattle.mc_model.specs.Good.{System}
use Rattle.mc_model.specs.Insts.{Listed, InstNode, free, ground, unique, dead, bound, Graph, Lists, AllowsSymbol, AllowsConstants}
use Rattle.mc_model.specs.Lists.{In}
use Rattle.mc_model.specs.Types.{argument_types, instance_of, type_at}
use Rattle.mc_accepted.specs.Inclusion.{symbol_tip, constant_tip}
use Rattle.mc_accepted.specs.Typing.{ConstantOf}
use Rattle.mc_accepted.specs.Determined.{lists_name, allows_name, allowed_of, allowed_in, excludes}
use Rattle.mc_accepted.specs.MergedArms.{takes_constants}
use Rattle.laws_language.proofs.FlatWhole.{in_list}
use Rattle.laws_graphs.specs.Nodes.{MeanOne}
use Rattle.laws_graphs.specs.Follows.{Told}
use Rattle.laws_graphs.specs.DeterminismLaws.{ListedOf, SystemsAlike, OneDeterminism}
use Rattle.laws_graphs.proofs.NodesMeanOne.{same-bits, types-are, to-types, types-there, takes-itself}
use Rattle.laws_graphs.proofs.Determining.{determined-same, misplaced-same, io-place-same, never-same, mark-same}

or-either : (t u : Bool) → (t || u) ≡ true → (t ≡ true) ⊎ (u ≡ true)
or-either true u e = inl refl
or-either false u e = inr e

module _ (P : Source) (i s : ℕ) where
  abbrev is_named : Listed → Bool
  is_named l = pointwise nat_eq l.name (P.symbols s).name.bytes && nat_eq l.arity (P.symbols s).name.arity

  lists-named : (ls : List Listed) → Lists P ls s (λ is. Unit {0}) → lists_name ls (P.symbols s).name ≡ true
  lists-named [] h = absurd h
  lists-named (l ∷ ls) h =
      ⊎_elim
      (λ a. or_left (is_named l) (lists_name ls (P.symbols s).name)
      (and_from (pointwise nat_eq l.name (P.symbols s).name.bytes) (nat_eq l.arity (P.symbols s).name.arity) ((bytes_decides l.name (P.symbols s).name.bytes).1 a.0) (eq-eqb l.arity (P.symbols s).name.arity a.1)))
      (λ a. or_right (is_named l) (lists_name ls (P.symbols s).name) (lists-named ls a)) h

  named-lists : (ls : List Listed) → lists_name ls (P.symbols s).name ≡ true → Lists P ls s (λ is. Unit {0})
  named-lists [] e = absurd (cc e)
  named-lists (l ∷ ls) e =
      ⊎_elim
      (λ a. let p = and_parts (pointwise nat_eq l.name (P.symbols s).name.bytes) (nat_eq l.arity (P.symbols s).name.arity) a in inl ((bytes_decides l.name (P.symbols s).name.bytes).0 p.0, eqb-true l.arity (P.symbols s).name.arity p.1, tt))
      (λ a. inr (named-lists ls a)) (or-either (is_named l) (lists_name ls (P.symbols s).name) e)

  allows-named : (N : InstNode) → AllowsSymbol P N i s (λ is. Unit {0}) → allows_name N (P.symbols s).name ≡ true
  allows-named free h = absurd h
  allows-named ground h = refl
  allows-named unique h = refl
  allows-named dead h = refl
  allows-named (bound ls) h = lists-named ls h

  named-allows : (N : InstNode) → allows_name N (P.symbols s).name ≡ true → AllowsSymbol P N i s (λ is. Unit {0})
  named-allows free e = absurd (cc e)
  named-allows ground e = tt
  named-allows unique e = tt
  named-allows dead e = tt
  named-allows (bound ls) e = named-lists ls e

takes-there : (N : InstNode) → takes_constants N ≡ true → AllowsConstants N
takes-there free e = absurd (cc e)
takes-there ground e = tt
takes-there unique e = tt
takes-there dead e = tt
takes-there (bound ls) e = absurd (cc e)

there-takes : (N : InstNode) → AllowsConstants N → takes_constants N ≡ true
there-takes free h = absurd h
there-takes ground h = refl
there-takes unique h = refl
there-takes dead h = refl
there-takes (bound ls) h = absurd h

module _ (P : Source) (m n : ℕ) (G H : Graph) where
  names-same : (t : TypeTerm) (ts : List TypeTerm) (s i j : ℕ) → argument_types P s t ≡ Some ts → MeanOne P m G n H t i j → allows_name (G i) (P.symbols s).name ≡ allows_name (H j) (P.symbols s).name
  names-same t ts s i j e r =
      same-bits (allows_name (G i) (P.symbols s).name) (allows_name (H j) (P.symbols s).name)
      (λ q. allows-named P j s (H j) (types-are (argument_types P s t) ts (λ us. AllowsSymbol P (H j) j s (λ is. Unit {0})) e ((r.same [] (symbol_tip s)).0 (to-types (argument_types P s t) ts (λ us. AllowsSymbol P (G i) i s (λ is. Unit {0})) e (named-allows P i s (G i) q)))))
      (λ q. allows-named P i s (G i) (types-are (argument_types P s t) ts (λ us. AllowsSymbol P (G i) i s (λ is. Unit {0})) e ((r.same [] (symbol_tip s)).1 (to-types (argument_types P s t) ts (λ us. AllowsSymbol P (H j) j s (λ is. Unit {0})) e (named-allows P j s (H j) q)))))

  constants-same : (t : TypeTerm) (v : Val) (i j : ℕ) → ConstantOf v t → MeanOne P m G n H t i j → takes_constants (G i) ≡ takes_constants (H j)
  constants-same t v i j c r =
      same-bits (takes_constants (G i)) (takes_constants (H j)) (λ e. there-takes (H j) ((r.same [] (constant_tip t)).0 (takes-itself v t c, takes-there (G i) e)).1)
      (λ e. there-takes (G i) ((r.same [] (constant_tip t)).1 (takes-itself v t c, takes-there (H j) e)).1)

-- the second system, over the program of the first
abbrev pub over_source : System → Source → System
over_source U P = record U { world = record U.world { source = P } }

module _ (S U : System) (T : ℕ → TypeTerm) (m n : ℕ) (alike : SystemsAlike T S U) (listed : ListedOf S.world.source) where
  abbrev P : Source
  P = S.world.source

  abbrev Rel : TypeTerm → ℕ → ℕ → Type 0
  Rel t i j = MeanOne P m S.insts n U.insts t i j

  listed-types : (u s : ℕ) (ts : TypeTerms) → In s (P.symbols_of u) → argument_types P s (union_type u ts) ≡ Some (map (instance_of (type_at ts)) (P.symbols s).args)
  listed-types u s ts i = ap₂ (λ (p q : Bool). cond (p && q) (Some (map (instance_of (type_at ts)) (P.symbols s).args)) None) (eq-eqb (P.symbols s).of_type u (listed u s i)) (in_list s (P.symbols_of u) i)

  lists-same : (u i j : ℕ) (ts : TypeTerms) → Rel (union_type u ts) i j → (ss : List ℕ) → ((s : ℕ) → In s ss → In s (P.symbols_of u)) → allowed_of S T i ss ≡ allowed_of (over_source U P) T j ss
  lists-same u i j ts r [] w = refl
  lists-same u i j ts r (s ∷ ss) w =
      ap₂ (λ (p : Bool) (xs : List ℕ). cond p (s ∷ xs) xs) (names-same P m n S.insts U.insts (union_type u ts) _ s i j (listed-types u s ts (w s (inl refl))) r) (lists-same u i j ts r ss (λ x k. w x (inr k)))

  allowed-here : (t : TypeTerm) (i j : ℕ) → Rel t i j → allowed_in S T t i ≡ allowed_in (over_source U P) T t j
  allowed-here int_type i j r = refl
  allowed-here char_type i j r = refl
  allowed-here string_type i j r = refl
  allowed-here state_type i j r = refl
  allowed-here (variable_type v) i j r = refl
  allowed-here (union_type u ts) i j r = ap Some (lists-same u i j ts r (P.symbols_of u) (λ s k. k))

  pub nodes-told : (first : ℕ) → Told P T first Rel S U
  nodes-told first =
      record {
        dets = alike.dets;
        dead = alike.dead;
        allowed = λ t i j r. allowed-here t i j r ∙ sym (ap (λ (Q : Source). allowed_in (over_source U Q) T t j) alike.source);
        excluded = λ t ts s i j e r.
            ap not (names-same P m n S.insts U.insts t ts s i j (types-there P s t ts e) r)
            ∙ sym (ap (λ (Q : Source). excludes (over_source U Q) T j s) alike.source);
        constants = constants-same P m n S.insts U.insts;
      }

pub one-determinism : OneDeterminism
one-determinism S U T first m n alike listed b c g h i f =
    record {
      determinism = λ known. determined-same S.world.source T first (MeanOne S.world.source m S.insts n U.insts) S U (nodes-told S U T m n alike listed first) b c known g h i f;
      misplaced = λ known all. misplaced-same S.world.source T first (MeanOne S.world.source m S.insts n U.insts) S U (nodes-told S U T m n alike listed first) b c known all g h i f;
      io = λ known all. io-place-same S.world.source T first (MeanOne S.world.source m S.insts n U.insts) S U (nodes-told S U T m n alike listed first) b c known all g h i f;
      end = never-same S.world.source T first (MeanOne S.world.source m S.insts n U.insts) S U (nodes-told S U T m n alike listed first) b c g h i f;
      mark = λ Q. mark-same S.world.source T first (MeanOne S.world.source m S.insts n U.insts) S U (nodes-told S U T m n alike listed first) Q b c g h i f;
    }
