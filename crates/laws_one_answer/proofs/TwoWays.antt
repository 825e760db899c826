-- What comes of a program in two ways is one.
use Rattle.std.proofs.Common.{◌≡◌, ◌⊎◌, inl, inr, Bool, List, Vec, [], ◌∷◌, ◌++◌, map, refl, sym, ap, ap₂, ◌∙◌, subst}
use Rattle.std.specs.Global.{Global}
use Rattle.std.specs.List.{All, AllZip}
use Rattle.std.proofs.lemmas.List.Elements.{All-nil, All-cons}
use Rattle.mc_source.specs.declared.rule.Broken.{Broken}
use Rattle.mc_program.specs.Programs.{TypeTerm}
use Rattle.mc_program.specs.PlainPrograms.{plain_program}
use Rattle.mc_program.specs.Values.{Val}
use Rattle.mc_program.specs.declared.builtin.Builtin.{Builtin}
use Rattle.mc_program.specs.declared.program.Program.{Program}
use Rattle.mc_model.specs.Builtins.{outcome}
use Rattle.mc_model.specs.Outcomes.{Outcome}
use Rattle.mc_model.specs.Worlds.{library_of}
use Rattle.mc_model.specs.declared.flat.Normal.{Normal}
use Rattle.mc_model.specs.PlainGoals.{plain_node}
use Rattle.mc_model.specs.declared.inst.Sig.{Sig}
use Rattle.mc_model.specs.declared.sched.Proc.{Proc}
use Rattle.mc_accepted.specs.Arranged.{in_order}
use Rattle.mc_source.specs.Rules.{by_place}
use Rattle.mc_accepted.specs.InstRules.{PlainInstDef}
use Rattle.mc_insts.specs.declared.insts.Insts.{Insts}
use Rattle.mc_insts.specs.Graphs.{graph_of}
use Rattle.laws_order.specs.SomeTest.{TypesMet}
use Rattle.mc_procs.specs.Fitting.{AllFit}
use Rattle.mc_procs.specs.Procedures.{PlainProcs, insts_of}
use Rattle.mc_modes.specs.Numbering.{IsMode, mode_ids}
use Rattle.mc_modes.specs.Outcomes.{Tried, IsTried, broken_rules, AreBroken, IsOrdered}
use Rattle.mc_modes.specs.declared.modes.ModeId.{ModeId}
use Rattle.mc_modes.specs.declared.ordering.Orders.{Orders}
use Rattle.mc_modes.specs.declared.ordering.Orders.TheVariants as O
use Rattle.mc_accepted.specs.NormalGoals.{HasNormalGoals}
use Rattle.mc_modes.proofs.Ids.{are_modes}
use Rattle.mc_analysis.specs.Premises.{HasInsts, InitialProcedures, Preconditions}
use Rattle.mc_analysis.specs.Rules.{AnalysisGives, Determined, FaultsAre, Ordered, break_no_rule, break_uniqueness, break_modes, break_determinism}
use Rattle.mc_analysis.specs.Untidy.{AreUntidy, AreAsked}
use Rattle.mc_analysis.specs.declared.rules.AnalysisResult.{AnalysisResult}
use Rattle.mc_analysis.specs.declared.rules.AnalysisResult.TheVariants as R
use Rattle.mc_analysis.proofs.Asking.{asked_over, asked_among}
use Rattle.laws_procedures.proofs.OfModes.{last_program}
use Rattle.laws_one_answer.specs.FoundNodes.{FoundNodes}
use Rattle.laws_one_answer.specs.ModesMeanOne.{NodesAreOne, SigsAreOne, ArePlaced}
use Rattle.laws_one_answer.specs.OneListOfRules.{OneListOfRules}
use Rattle.laws_one_answer.specs.OneAnswer.{RunAlike, OneRuled, ComeToFit, AreNamedApart, OneAnswer}
use Rattle.laws_one_answer.proofs.ModesMeanOne.{all-over}
use Rattle.laws_one_answer.proofs.SigsAreOne.{ids_one}
use Rattle.laws_one_answer.proofs.SamePrograms.{one-value}
use Rattle.laws_one_answer.proofs.OrderTypes.{types_are_one}
use Rattle.laws_one_answer.proofs.TwoOrders.{orders_are_one}
use Rattle.laws_one_answer.proofs.TwoRuns.{OrdersAreOne, one_list, one_main, one_run}
use Rattle.laws_one_answer.proofs.Untidied.{untidy_alike, asked_alike}

-- ---- goals in order break no rule
module _ (sigs : List Sig) (goals : List Normal) (exported : List Bool) (first last : PlainProcs) where
  abbrev AreInOrder : List ModeId → List Proc → Type 0
  AreInOrder ids ps = AllZip (IsOrdered sigs goals exported first last) ids ps

  abbrev tried_of : List ModeId → List Proc → List Tried
  tried_of [] ps = []
  tried_of (id ∷ ids) [] = []
  tried_of (id ∷ ids) (p ∷ ps) = record { id = id; verdict = in_order (plain_node p.body) } ∷ tried_of ids ps

  tried_ids : (ids : List ModeId) (ps : List Proc) → AreInOrder ids ps → map (λ (t : Tried). t.id) (tried_of ids ps) ≡ ids
  tried_ids [] ps h = refl
  tried_ids (id ∷ ids) [] h = absurd h
  tried_ids (id ∷ ids) (p ∷ ps) h = ap (λ (is : List ModeId). id ∷ is) (tried_ids ids ps h.1)

  each_tried : (ids : List ModeId) (ps : List Proc) → AreInOrder ids ps → All (IsTried sigs goals first last) (tried_of ids ps)
  each_tried [] ps h = All-nil (IsTried sigs goals first last)
  each_tried (id ∷ ids) [] h = absurd h
  each_tried (id ∷ ids) (p ∷ ps) h =
      All-cons (IsTried sigs goals first last) (record { id = id; verdict = in_order (plain_node p.body) }) (tried_of ids ps)
      (record { before = h.0.before; after = h.0.after; end = h.0.scheduled.end; begun = h.0.begun; becomes = h.0.scheduled.becomes; ended = h.0.ended })
      (each_tried ids ps h.1)

  no_rules : (ids : List ModeId) (ps : List Proc) → [] ≡ broken_rules sigs goals (tried_of ids ps)
  no_rules [] ps = refl
  no_rules (id ∷ ids) [] = refl
  no_rules (id ∷ ids) (p ∷ ps) = no_rules ids ps

  none_broken : (ids : List ModeId) (ps : List Proc) → AreInOrder ids ps → AreBroken sigs goals first last ids []
  none_broken ids ps h = record { tried = tried_of ids ps; ids_are = tried_ids ids ps h; each = each_tried ids ps h; rules = no_rules ids ps }

-- ---- how an answer came
module _ (P : Program) (defs : List PlainInstDef) (sigs : List Sig) (goals : List Normal) (exported : List Bool) (runs : Bool) where
  abbrev Coming : AnalysisResult → Type 0
  Coming r = AnalysisGives P defs sigs goals exported runs r

  -- procedures that fit, and the rules of determinism that they break
  record Judged (last : PlainProcs) (faults : List Broken) : Type 0 where
    pub ordered : PlainProcs
    pub came : Ordered P defs sigs goals exported O.All ordered
    pub determined : Determined ordered last
    pub faults_are : FaultsAre runs last faults
    pub fit : AllFit last

  record BreaksUniqueness (list : Vec Broken Global) : Type 0 where
    pub first : PlainProcs
    pub last : PlainProcs
    pub untidy : List Broken
    pub faults : List Broken
    pub ids : List ModeId
    pub begins : InitialProcedures P defs sigs untidy first
    pub some : untidy ≡ [] → ⊥
    pub premises : Preconditions first sigs goals exported
    pub are_asked : AreAsked (plain_program P) (insts_of first) sigs goals (mode_ids P sigs) ids
    pub broken : AreBroken sigs goals first last ids faults
    pub same : list.items ≡ by_place (untidy ++ faults)

  record BreaksModes (list : Vec Broken Global) : Type 0 where
    pub last : PlainProcs
    pub came : Ordered P defs sigs goals exported (O.Broken list) last

  record BreaksDeterminism (list : Vec Broken Global) : Type 0 where
    pub last : PlainProcs
    pub judged : Judged last list.items
    pub some : list.items ≡ [] → ⊥

  abbrev Breaks : Vec Broken Global → Type 0
  Breaks list = BreaksUniqueness list ⊎ (BreaksModes list ⊎ BreaksDeterminism list)

  kept : (last : PlainProcs) → Coming (R.Procs last) → Judged last []
  kept last (break_no_rule {ordered = o} came determined none fit) = record { ordered = o; came = came; determined = determined; faults_are = none; fit = fit }

  broken : (list : Vec Broken Global) → Coming (R.Broken list) → Breaks list
  broken list (break_uniqueness {first = q} {last = l} {untidy = u} {faults = fs} {ids = is} begins some premises are_asked broke same) =
      inl (record { first = q; last = l; untidy = u; faults = fs; ids = is; begins = begins; some = some; premises = premises; are_asked = are_asked; broken = broke; same = same })
  broken list (break_modes {last = l} came) = inr (inl (record { last = l; came = came }))
  broken list (break_determinism {ordered = o} {last = l} came determined faults fit some) =
      inr (inr (record { last = l; judged = record { ordered = o; came = came; determined = determined; faults_are = faults; fit = fit }; some = some }))

-- ---- two answers, by two lists of definitions
module _ (P : Program) (defs defs2 : List PlainInstDef) (sigs sigs2 : List Sig) (goals : List Normal) (exported : List Bool) (runs : Bool) (one_sigs : SigsAreOne (NodesAreOne P defs defs2) sigs sigs2) where
  abbrev Here : Orders → PlainProcs → Type 0
  Here o q = Ordered P defs sigs goals exported o q

  abbrev There : Orders → PlainProcs → Type 0
  There o q = Ordered P defs2 sigs2 goals exported o q

  abbrev JudgedHere : PlainProcs → List Broken → Type 0
  JudgedHere last faults = Judged P defs sigs goals exported runs last faults

  abbrev JudgedThere : PlainProcs → List Broken → Type 0
  JudgedThere last faults = Judged P defs2 sigs2 goals exported runs last faults

  abbrev BreaksHere : Vec Broken Global → Type 0
  BreaksHere list = Breaks P defs sigs goals exported runs list

  abbrev BreaksThere : Vec Broken Global → Type 0
  BreaksThere list = Breaks P defs2 sigs2 goals exported runs list

  abbrev UntidyHere : Vec Broken Global → Type 0
  UntidyHere list = BreaksUniqueness P defs sigs goals exported runs list

  abbrev UntidyThere : Vec Broken Global → Type 0
  UntidyThere list = BreaksUniqueness P defs2 sigs2 goals exported runs list

  -- ---- modes that break no rule of uniqueness in one graph break none in another
  one_untidy : (I J : Insts) (xs ys : List Broken) → HasInsts P defs I → HasInsts P defs2 J → AreUntidy (plain_program P) (graph_of I) sigs xs → AreUntidy (plain_program P) (graph_of J) sigs2 ys → xs ≡ ys
  one_untidy I J xs ys here there a b = untidy_alike P defs defs2 I J here there sigs sigs2 xs ys one_sigs a b

  not_untidy : (list : Vec Broken Global) (o : Orders) (q : PlainProcs) → UntidyHere list → There o q → ⊥
  not_untidy list o q b came = b.some (one_untidy b.first.insts came.first.insts b.untidy [] b.begins.insts came.begins.insts b.begins.told came.begins.told)

  nor_untidy : (list : Vec Broken Global) (o : Orders) (q : PlainProcs) → UntidyThere list → Here o q → ⊥
  nor_untidy list o q b came = b.some (sym (one_untidy came.first.insts b.first.insts [] b.untidy came.begins.insts b.begins.insts came.begins.told b.begins.told))

  -- ---- goals in order break no rule, and those that break one break one list
  same_ids : mode_ids P sigs2 ≡ mode_ids P sigs
  same_ids = ids_one (NodesAreOne P defs defs2) P sigs sigs2 one_sigs

  module _ (rules : OneListOfRules) (placed : ArePlaced 0 sigs) (met : (t : TypeTerm) → TypesMet (plain_program P) t) where
    -- where some mode is untidy, the same goals are tried
    both_untidy : (v w : Vec Broken Global) → UntidyHere v → UntidyThere w → v.items ≡ w.items
    both_untidy v w a b =
        let asked_there = subst (λ (is : List ModeId). AreAsked (plain_program P) (insts_of b.first) sigs2 goals is b.ids) same_ids b.are_asked in
        let one_ids : a.ids ≡ b.ids =
        asked_alike P defs defs2 a.first.insts b.first.insts a.begins.insts b.begins.insts sigs sigs2 goals (mode_ids P sigs) a.ids b.ids one_sigs a.are_asked asked_there in
        let one_told : a.untidy ≡ b.untidy = one_untidy a.first.insts b.first.insts a.untidy b.untidy a.begins.insts b.begins.insts a.begins.told b.begins.told in
        let one_faults : a.faults ≡ b.faults =
        rules P defs defs2 sigs sigs2 goals exported a.untidy b.untidy a.first b.first a.last b.last a.ids a.faults b.faults one_sigs met a.begins b.begins a.premises b.premises
        (asked_among (plain_program P) (insts_of a.first) sigs goals (IsMode P sigs) (mode_ids P sigs) a.ids a.are_asked (are_modes P sigs))
        (asked_over (plain_program P) (insts_of a.first) sigs goals (mode_ids P sigs) a.ids a.are_asked) a.broken
        (subst (λ (is : List ModeId). AreBroken sigs2 goals b.first b.last is b.faults) (sym one_ids) b.broken) in
        a.same ∙ (ap by_place (ap₂ (λ (xs ys : List Broken). xs ++ ys) one_told one_faults) ∙ sym b.same)

    one_list_told : (o p : Orders) (q r : PlainProcs) (came : Here o q) (also : There p r) (xs ys : List Broken) → AreBroken sigs goals came.first q (mode_ids came.first.program sigs) xs → AreBroken sigs2 goals also.first r (mode_ids also.first.program sigs2) ys → xs ≡ ys
    one_list_told o p q r came also xs ys f g =
        rules P defs defs2 sigs sigs2 goals exported [] [] came.first also.first q r (mode_ids P sigs) xs ys one_sigs met came.begins also.begins came.asked also.asked
        (are_modes P sigs) (all-over P defs sigs came.first placed came.begins goals (mode_ids P sigs))
        (subst (λ (X : Program). AreBroken sigs goals came.first q (mode_ids X sigs) xs) came.begins.program f)
        (subst (λ (is : List ModeId). AreBroken sigs2 goals also.first r is ys) same_ids
        (subst (λ (X : Program). AreBroken sigs2 goals also.first r (mode_ids X sigs2) ys) also.begins.program g))

    one_mode_list : (v w : Vec Broken Global) (q r : PlainProcs) → Here (O.Broken v) q → There (O.Broken w) r → v.items ≡ w.items
    one_mode_list v w q r came also =
        let f = came.became in
        let g = also.became in
        f.2 ∙ (ap by_place (one_list_told (O.Broken v) (O.Broken w) q r came also f.0 g.0 f.1 g.1) ∙ sym g.2)

    not_both : (v : Vec Broken Global) (q r : PlainProcs) → Here O.All q → There (O.Broken v) r → ⊥
    not_both v q r came also =
        let g = also.became in
        g.3 (g.2 ∙ ap by_place (sym (one_list_told O.All (O.Broken v) q r came also [] g.0 (none_broken sigs goals exported came.first q (mode_ids came.first.program sigs) q.added came.became) g.1)))

    nor_both : (v : Vec Broken Global) (q r : PlainProcs) → Here (O.Broken v) q → There O.All r → ⊥
    nor_both v q r came also =
        let f = came.became in
        f.3 (f.2 ∙ ap by_place (one_list_told (O.Broken v) O.All q r came also f.0 [] f.1 (none_broken sigs2 goals exported also.first r (mode_ids also.first.program sigs2) r.added also.became)))

  module _ (found : FoundNodes) (rules : OneListOfRules) (placed : ArePlaced 0 sigs) (normal : HasNormalGoals P goals) (apart_if : ComeToFit P defs sigs goals exported → AreNamedApart P)
      (met : (t : TypeTerm) → TypesMet (plain_program P) t) where
    abbrev does : Builtin → List Val → Outcome
    does = outcome (library_of P) []

    -- where procedures come that fit, clauses name their variables apart
    fitting : (l : PlainProcs) (xs : List Broken) → JudgedHere l xs → ComeToFit P defs sigs goals exported
    fitting l xs a = record { ordered = a.ordered; last = l; came = a.came; determined = a.determined; fit = a.fit }

    apart : (l : PlainProcs) (xs : List Broken) → JudgedHere l xs → AreNamedApart P
    apart l xs a = apart_if (fitting l xs a)

    -- the orders of goals are one
    orders : (l1 l2 : PlainProcs) (xs ys : List Broken) (a : JudgedHere l1 xs) (b : JudgedThere l2 ys)
        → OrdersAreOne does P defs defs2 sigs sigs2 goals exported one_sigs normal (apart l1 xs a) met a.ordered l1 a.came a.determined a.fit b.ordered l2 b.came b.determined b.fit
    orders l1 l2 xs ys a b =
        orders_are_one found does P defs defs2 sigs sigs2 goals exported one_sigs normal (apart l1 xs a) met placed a.ordered l1 a.came a.determined a.fit b.ordered l2 b.came b.determined b.fit
        (types_are_one found does P defs defs2 sigs sigs2 goals exported one_sigs normal (apart l1 xs a) met placed a.ordered l1 a.came a.determined a.fit b.ordered l2 b.came b.determined b.fit)

    one_fault_list : (l1 l2 : PlainProcs) (xs ys : List Broken) → JudgedHere l1 xs → JudgedThere l2 ys → xs ≡ ys
    one_fault_list l1 l2 xs ys a b =
        one_list does P defs defs2 sigs sigs2 goals exported one_sigs normal (apart l1 xs a) met a.ordered l1 a.came a.determined a.fit b.ordered l2 b.came b.determined b.fit (orders l1 l2 xs ys a b) runs xs ys a.faults_are b.faults_are

    not_kept : (l : PlainProcs) (v : Vec Broken Global) → JudgedHere l [] → BreaksThere v → ⊥
    not_kept l v a (inl b) = nor_untidy v O.All a.ordered b a.came
    not_kept l v a (inr (inl b)) = not_both rules placed met v a.ordered b.last a.came b.came
    not_kept l v a (inr (inr b)) = b.some (sym (one_fault_list l b.last [] v.items a b.judged))

    both_kept : (q r : PlainProcs) → JudgedHere q [] → JudgedThere r [] → RunAlike q r
    both_kept q r a b =
        let follow = orders q r [] [] a b in
        let one = one_run does P defs defs2 sigs sigs2 goals exported one_sigs normal (apart q [] a) met a.ordered q a.came a.determined a.fit b.ordered r b.came b.determined b.fit follow in
        record {
          program = one-value q.program r.program (last_program P defs2 sigs2 goals exported b.ordered r b.came b.determined ∙ sym (last_program P defs sigs goals exported a.ordered q a.came a.determined));
          main = one_main does P defs defs2 sigs sigs2 goals exported one_sigs normal (apart q [] a) met a.ordered q a.came a.determined a.fit b.ordered r b.came b.determined b.fit follow;
          calls = λ does budget height k. (one does budget height k).0;
          queries = λ does budget height k. (one does budget height k).1;
        }

    nor_kept : (l : PlainProcs) (v : Vec Broken Global) → BreaksHere v → JudgedThere l [] → ⊥
    nor_kept l v (inl a) b = not_untidy v O.All b.ordered a b.came
    nor_kept l v (inr (inl a)) b = nor_both rules placed met v a.last b.ordered a.came b.came
    nor_kept l v (inr (inr a)) b = a.some (one_fault_list a.last l v.items [] a.judged b)

    both_broken : (v w : Vec Broken Global) → BreaksHere v → BreaksThere w → v.items ≡ w.items
    both_broken v w (inl a) (inl b) = both_untidy rules placed met v w a b
    both_broken v w (inl a) (inr (inl b)) = absurd (not_untidy v (O.Broken w) b.last a b.came)
    both_broken v w (inl a) (inr (inr b)) = absurd (not_untidy v O.All b.judged.ordered a b.judged.came)
    both_broken v w (inr (inl a)) (inl b) = absurd (nor_untidy w (O.Broken v) a.last b a.came)
    both_broken v w (inr (inl a)) (inr (inl b)) = one_mode_list rules placed met v w a.last b.last a.came b.came
    both_broken v w (inr (inl a)) (inr (inr b)) = absurd (nor_both rules placed met v a.last b.judged.ordered a.came b.judged.came)
    both_broken v w (inr (inr a)) (inl b) = absurd (nor_untidy w O.All a.judged.ordered b a.judged.came)
    both_broken v w (inr (inr a)) (inr (inl b)) = absurd (not_both rules placed met w a.judged.ordered b.last a.judged.came b.came)
    both_broken v w (inr (inr a)) (inr (inr b)) = one_fault_list a.last b.last v.items w.items a.judged b.judged

    both_come : (r s : AnalysisResult) → AnalysisGives P defs sigs goals exported runs r → AnalysisGives P defs2 sigs2 goals exported runs s → OneRuled r s
    both_come (R.Procs q) (R.Procs r) a b = both_kept q r (kept P defs sigs goals exported runs q a) (kept P defs2 sigs2 goals exported runs r b)
    both_come (R.Procs q) (R.Broken v) a b = not_kept q v (kept P defs sigs goals exported runs q a) (broken P defs2 sigs2 goals exported runs v b)
    both_come (R.Broken v) (R.Procs q) a b = nor_kept q v (broken P defs sigs goals exported runs v a) (kept P defs2 sigs2 goals exported runs q b)
    both_come (R.Broken v) (R.Broken w) a b = both_broken v w (broken P defs sigs goals exported runs v a) (broken P defs2 sigs2 goals exported runs w b)

-- two answers are one
pub one-answer : FoundNodes → OneListOfRules → OneAnswer
one-answer found rules P ds es sigs others goals exported runs same normal apart met placed r s a b = both_come P ds es sigs others goals exported runs same found rules placed normal apart met r s a b
