-- Cases and rows that are made one after another.
use Rattle.std.proofs.Common.{◌≡◌, ℕ, zero, suc, ◌+◌, ◌<◌, ◌≤◌, List, [], ◌∷◌, ◌++◌, length, get_or, map, take, refl, sym, ap, ◌∙◌, subst, arith, length-append}
use Rattle.std.proofs.lemmas.List.{get_or_append_left, get_or-append-add, take_more, map-append, get_or-map}
use Rattle.mc_program.specs.Programs.{TypeTerm, TypeTerms, Source}
use Rattle.mc_program.specs.Programs as programs
use Rattle.mc_program.specs.PlainPrograms.{type_terms, plain_type, plain_symbol, no_symbol}
use Rattle.mc_program.specs.declared.program.Symbol.{Symbol}
use Rattle.mc_program.specs.declared.program.TypeDef.{TypeDef}
use Rattle.mc_model.specs.Types.{instance_of, type_at}
use Rattle.mc_insts.specs.declared.graph.Case.{Case}
use Rattle.mc_insts.specs.declared.graph.Shape.{Shape}
use Rattle.mc_insts.specs.declared.rows.Constructor.{Constructor}
use Rattle.mc_insts.specs.code.Functors.{Functor}
use Rattle.mc_insts.specs.code.Lists.{Extends}
use Rattle.mc_insts.specs.code.Walks.{shape_at, functor_at}
use Rattle.mc_insts.specs.code.TypeRows.{term_at, terms_at, AllBelow, RowsOf, over_rows}
use Rattle.mc_insts.specs.code.Tables.{constructor_of, arguments_of, CaseIs, CasesAre, ShapeIs, ShapesAre, ConstructorsAre, Named}
use Rattle.mc_insts.proofs.Found.{by_order}
use Rattle.mc_insts.proofs.TypeKeys.{terms_on}
use Rattle.mc_insts.proofs.Tables.{rows_on}

-- an argument's rows over rows that were there before
pub args_are : (P : Source) (s : ℕ) (ts0 ts us : List TypeTerm) (env rows : List ℕ) (args : List TypeTerm) → Extends ts0 ts → AllBelow (length ts0) env → args ≡ (P.symbols s).args → RowsOf us rows (map (over_rows ts env) args)
    → RowsOf us rows (arguments_of P s (terms_at ts0 env))
args_are P s ts0 ts us env rows args e h is rs =
    let old : terms_at ts env ≡ terms_at ts0 env = ap type_terms (terms_on ts0 ts env e h) in
    subst (λ zs. RowsOf us rows zs) (ap (λ xs. map (λ t. instance_of (type_at xs) t) args) old ∙ ap (map (instance_of (type_at (terms_at ts0 env)))) is) rs

case_on : (P : Source) (ts us : List TypeTerm) (es : TypeTerms) (c : Case) (d : Constructor) → Extends ts us → CaseIs P ts es c d → CaseIs P us es c d
case_on P ts us es c d e h = record { functor = h.functor; args = rows_on ts us c.args (arguments_of P d.symbol es) e h.args }

cases_push : (P : Source) (ts us : List TypeTerm) (es : TypeTerms) (cs : List Case) (ds : List Constructor) (c : Case) (d : Constructor) → Extends ts us → CasesAre P ts es cs ds → CaseIs P us es c d → CasesAre P us es (cs ++ c ∷ []) (ds ++ d ∷ [])
cases_push P ts us es cs ds c d e h one =
    let n = length cs in
    let same = h.0 in (
      omega (arith, length-append cs (c ∷ []), length-append ds (d ∷ [])),
      λ k x y lt.
          by_order k n
          (λ a. subst (λ z. CaseIs P us es z (get_or (ds ++ d ∷ []) k y)) (sym (get_or_append_left cs (c ∷ []) x k a))
          (subst (λ z. CaseIs P us es (get_or cs k x) z) (sym (get_or_append_left ds (d ∷ []) y k (omega arith))) (case_on P ts us es (get_or cs k x) (get_or ds k y) e (h.1 k x y a))))
          (λ a.
          let p : k ≡ n + 0 = omega arith in
          let q : k ≡ length ds + 0 = omega arith in
          subst (λ z. CaseIs P us es z (get_or (ds ++ d ∷ []) k y)) (sym (ap (λ i. get_or (cs ++ c ∷ []) i x) p ∙ get_or-append-add cs (c ∷ []) 0 x))
          (subst (λ z. CaseIs P us es c z) (sym (ap (λ i. get_or (ds ++ d ∷ []) i y) q ∙ get_or-append-add ds (d ∷ []) 0 y)) one))
          (λ a. absurd (omega (arith, length-append cs (c ∷ [])))),
    )

pub cases_step : (P : Source) (ts us : List TypeTerm) (es : TypeTerms) (cs : List Case) (ds : List Constructor) (i : ℕ) (c : Case) (d : Constructor) → Extends ts us → i < length ds → d ≡ get_or ds i d → CasesAre P ts es cs (take i ds) → CaseIs P us es c d
    → CasesAre P us es (cs ++ c ∷ []) (take (i + 1) ds)
cases_step P ts us es cs ds i c d e lt is h one =
    subst (λ (zs : List Constructor). CasesAre P us es (cs ++ c ∷ []) zs) (sym (take_more ds i d lt ∙ ap (λ x. take i ds ++ x ∷ []) (sym is))) (cases_push P ts us es cs (take i ds) c d e h one)

pub shapes_push : (P : Source) (symbols : List ℕ) (us : List TypeTerm) (rows : List Shape) (R : Shape) → ShapesAre P symbols us rows → ShapeIs P symbols us R (term_at us (length rows)) → ShapesAre P symbols us (rows ++ R ∷ [])
shapes_push P symbols us rows R h one k lt =
    by_order k (length rows)
    (λ a. subst (λ z. ShapeIs P symbols us z (term_at us k)) (sym (get_or_append_left rows (R ∷ []) _ k a)) (h k a))
    (λ a.
    let p : k ≡ length rows + 0 = omega arith in
    subst (λ z. ShapeIs P symbols us z (term_at us k)) (sym (ap (shape_at (rows ++ R ∷ [])) p ∙ get_or-append-add rows (R ∷ []) 0 _)) (subst (λ n. ShapeIs P symbols us R (term_at us n)) (sym a) one))
    (λ a. absurd (omega (arith, length-append rows (R ∷ []))))

pub constructors_more : (symbols listed : List ℕ) (i s : ℕ) → i < length listed → s ≡ get_or listed i s → map (constructor_of symbols) (take (i + 1) listed) ≡ map (constructor_of symbols) (take i listed) ++ constructor_of symbols s ∷ []
constructors_more symbols listed i s h is = ap (map (constructor_of symbols)) (take_more listed i s h ∙ ap (λ x. take i listed ++ x ∷ []) (sym is)) ∙ map-append (constructor_of symbols) (take i listed) (s ∷ [])

-- what a program lists under a number
pub listed_at : (types : List TypeDef) (u : ℕ) (d : TypeDef) → u < length types → get_or (map (λ (t : TypeDef). t.symbols) types) u [] ≡ (get_or types u d).symbols
listed_at types u d h = get_or-map (λ (t : TypeDef). t.symbols) types u d [] h

pub listed_past : (types : List TypeDef) (u : ℕ) → length types ≤ u → get_or (map (λ (t : TypeDef). t.symbols) types) u [] ≡ []
listed_past [] u h = refl
listed_past (x ∷ types) zero h = absurd (omega arith)
listed_past (x ∷ types) (suc u) h = listed_past types u (omega arith)

pub args_at : (symbols : List Symbol) (s : ℕ) (d : Symbol) → s < length symbols → (get_or (map plain_symbol symbols) s no_symbol).args ≡ map plain_type (get_or symbols s d).args
args_at symbols s d h = ap (λ (x : programs.Constructor). x.args) (get_or-map plain_symbol symbols s d no_symbol h)

pub args_past : (symbols : List Symbol) (s : ℕ) → length symbols ≤ s → (get_or (map plain_symbol symbols) s no_symbol).args ≡ []
args_past [] s h = refl
args_past (x ∷ symbols) zero h = absurd (omega arith)
args_past (x ∷ symbols) (suc s) h = args_past symbols s (omega arith)

pub past : (symbols : List ℕ) (s : ℕ) → length symbols ≤ s → get_or symbols s 0 ≡ 0
past [] s h = refl
past (x ∷ symbols) zero h = absurd (omega arith)
past (x ∷ symbols) (suc s) h = past symbols s (omega arith)

-- constructors with one functor have one name
pub named_of : (P : Source) (fs : List Functor) (known : ℕ) (symbols : List ℕ) → ConstructorsAre P fs known symbols → Named P symbols
named_of P fs known symbols h = record {
  names = λ s t e. sym (h.names s) ∙ ap (λ f. (functor_at fs f).name) e ∙ h.names t;
  arities = λ s t e. sym (h.arities s) ∙ ap (λ f. (functor_at fs f).arity) e ∙ h.arities t;
}
