-- A type that is turned into a row from the inside.
use Rattle.std.proofs.Common.{◌≡◌, ℕ, zero, suc, ◌+◌, ◌<◌, ◌≤◌, List, [], ◌∷◌, ◌++◌, length, get_or, map, drop, take, refl, sym, ap, ap₂, ◌∙◌, subst, arith, length-append, append_assoc}
use Rattle.std.proofs.lemmas.List.{map-append, get_or_append_left, get_or-append-add, take_more}
use Rattle.std.proofs.Math.ListN.{drop_of_length-le}
use Rattle.std.proofs.Math.Seq.{drop-cons}
use Rattle.mc_program.specs.Programs.{TypeTerm, int_type, char_type, string_type, state_type, variable_type, union_type, TypeTerms, no_types, type_then}
use Rattle.mc_program.specs.PlainPrograms.{type_terms, plain_type, plain_type_step}
use Rattle.mc_program.specs.declared.ty.Ty.{Ty}
use Rattle.mc_program.specs.declared.ty.Ty as ty
use Rattle.mc_program.specs.declared.ty.Ty.TheOpen as T
use Rattle.mc_program.specs.declared.ty.Ty.TheFolds.{fold-roll-Ty}
use Rattle.mc_program.specs.declared.ty.Ty.TheVariants.{rolls-Int, rolls-Char, rolls-Str, rolls-Io, rolls-Var, rolls-Union}
use Rattle.mc_model.specs.Types.{instance_of, instances_of, type_at}
use Rattle.mc_insts.specs.declared.intern.Frame.{Frame}
use Rattle.mc_insts.specs.declared.intern.Climbed.{Climbed}
use Rattle.mc_insts.specs.code.Lists.{Extends}
use Rattle.mc_insts.specs.code.TypeRows.{term_at, terms_at, AllBelow, RowOf, RowsOf, over_rows}
use Rattle.mc_insts.specs.code.Frames.{around, rebuilt, FrameFits, FramesFit, Climbs}
use Rattle.mc_insts.proofs.Found.{by_order}
use Rattle.mc_insts.proofs.Growth.{extends_length}
use Rattle.mc_insts.proofs.TypeKeys.{terms_on}

-- the plain views of types
pub plain_int : plain_type ty.Int ≡ int_type
plain_int = ap plain_type (sym rolls-Int) ∙ fold-roll-Ty TypeTerm plain_type_step T.Int

pub plain_char : plain_type ty.Char ≡ char_type
plain_char = ap plain_type (sym rolls-Char) ∙ fold-roll-Ty TypeTerm plain_type_step T.Char

pub plain_string : plain_type ty.Str ≡ string_type
plain_string = ap plain_type (sym rolls-Str) ∙ fold-roll-Ty TypeTerm plain_type_step T.Str

pub plain_state : plain_type ty.Io ≡ state_type
plain_state = ap plain_type (sym rolls-Io) ∙ fold-roll-Ty TypeTerm plain_type_step T.Io

pub plain_variable : (v : ℕ) → plain_type (ty.Var v) ≡ variable_type v
plain_variable v = ap plain_type (sym (rolls-Var v)) ∙ fold-roll-Ty TypeTerm plain_type_step (T.Var v)

pub plain_union : (u : ℕ) (args : List Ty) → plain_type (ty.Union u args) ≡ union_type u (type_terms (map plain_type args))
plain_union u args = ap plain_type (sym (rolls-Union u args)) ∙ fold-roll-Ty TypeTerm plain_type_step (T.Union u args)

pub instances : (σ : ℕ → TypeTerm) (ts : List TypeTerm) → instances_of σ (type_terms ts) ≡ type_terms (map (instance_of σ) ts)
instances σ [] = refl
instances σ (t ∷ ts) = ap (λ us. type_then (instance_of σ t) us) (instances σ ts)

-- a type variable that has a row in the environment, and one behind those
pub at_variable : (ts : List TypeTerm) (env : List ℕ) (v : ℕ) → v < length env → type_at (terms_at ts env) v ≡ term_at ts (get_or env v 0)
at_variable ts [] v h = absurd (omega arith)
at_variable ts (r ∷ env) zero h = refl
at_variable ts (r ∷ env) (suc v) h = at_variable ts env v (omega arith)

pub past_variable : (ts : List TypeTerm) (env : List ℕ) (v : ℕ) → type_at (terms_at ts env) (length env + v) ≡ variable_type v
past_variable ts [] v = ap variable_type (omega arith)
past_variable ts (r ∷ env) v = let x : length (r ∷ env) + v ≡ suc (length env + v) = omega arith in ap (type_at (terms_at ts (r ∷ env))) x ∙ past_variable ts env v

-- frames
pub rebuilt_push : (ts : List TypeTerm) (σ : ℕ → TypeTerm) (fs : List Frame) (f : Frame) (t : TypeTerm) → rebuilt ts σ (fs ++ f ∷ []) t ≡ rebuilt ts σ fs (around ts σ f t)
rebuilt_push ts σ [] f t = refl
rebuilt_push ts σ (g ∷ fs) f t = ap (around ts σ g) (rebuilt_push ts σ fs f t)

frame_on : (ts us : List TypeTerm) (σ : ℕ → TypeTerm) (f : Frame) (t : TypeTerm) → Extends ts us → FrameFits (length ts) f → around us σ f t ≡ around ts σ f t
frame_on ts us σ f t e fit = ap (λ xs. union_type f.number (type_terms (xs ++ t ∷ map (instance_of σ) (map plain_type (drop (suc (length f.rows.items)) f.args.now))))) (terms_on ts us f.rows.items e fit.0)

pub rebuilt_on : (ts us : List TypeTerm) (σ : ℕ → TypeTerm) (fs : List Frame) (t : TypeTerm) → Extends ts us → FramesFit (length ts) fs → rebuilt us σ fs t ≡ rebuilt ts σ fs t
rebuilt_on ts us σ [] t e fit = refl
rebuilt_on ts us σ (f ∷ fs) t e fit = frame_on ts us σ f (rebuilt us σ fs t) e fit.0 ∙ ap (around ts σ f) (rebuilt_on ts us σ fs t e fit.1)

frame_more : (n m : ℕ) (f : Frame) → n ≤ m → FrameFits n f → FrameFits m f
frame_more n m f le fit = (λ k lt. let x : get_or f.rows.items k 0 < n = fit.0 k lt in omega arith, fit.1)

pub frames_more : (n m : ℕ) (fs : List Frame) → n ≤ m → FramesFit n fs → FramesFit m fs
frames_more n m [] le fit = tt
frames_more n m (f ∷ fs) le fit = (frame_more n m f le fit.0, frames_more n m fs le fit.1)

pub frames_push : (n : ℕ) (fs : List Frame) (f : Frame) → FramesFit n fs → FrameFits n f → FramesFit n (fs ++ f ∷ [])
frames_push n [] f fit h = (h, tt)
frames_push n (g ∷ fs) f fit h = (fit.0, frames_push n fs f fit.1 h)

pub frames_front : (n : ℕ) (fs : List Frame) (f : Frame) → FramesFit n (fs ++ f ∷ []) → FramesFit n fs
frames_front n [] f fit = tt
frames_front n (g ∷ fs) f fit = (fit.0, frames_front n fs f fit.1)

pub frames_last : (n : ℕ) (fs : List Frame) (f : Frame) → FramesFit n (fs ++ f ∷ []) → FrameFits n f
frames_last n [] f fit = fit.0
frames_last n (g ∷ fs) f fit = frames_last n fs f fit.1

-- one more row
pub below_push : (n : ℕ) (rows : List ℕ) (row : ℕ) → AllBelow n rows → row < n → AllBelow n (rows ++ row ∷ [])
below_push n rows row h lt k w =
    let l : length (rows ++ row ∷ []) ≡ length rows + 1 = length-append rows (row ∷ []) in
    by_order k (length rows)
    (λ x. subst (λ z. z < n) (sym (get_or_append_left rows (row ∷ []) 0 k x)) (h k x))
    (λ x. subst (λ z. z < n) (sym (ap (λ j. get_or (rows ++ row ∷ []) j 0) (let z : k ≡ length rows + 0 = omega arith in z) ∙ get_or-append-add rows (row ∷ []) 0 0)) lt)
    (λ x. absurd (omega arith))

-- the next argument is at hand
pub moved : (ts : List TypeTerm) (σ : ℕ → TypeTerm) (f g : Frame) (row : ℕ) (t : Ty) → g.number ≡ f.number → g.args.now ≡ f.args.now → g.rows.items ≡ f.rows.items ++ row ∷ [] → length g.rows.items < length g.args.now
    → t ≡ get_or g.args.now (length g.rows.items) t → around ts σ g (instance_of σ (plain_type t)) ≡ around ts σ f (term_at ts row)
moved ts σ f g row t number args rows lt is =
    let n = length f.rows.items in
    let m : length g.rows.items ≡ suc n = ap length rows ∙ length-append f.rows.items (row ∷ []) ∙ omega arith in
    let tail : drop (suc n) f.args.now ≡ t ∷ drop (suc (suc n)) f.args.now =
    drop-cons f.args.now (suc n) t (subst (λ k. k < length f.args.now) m (subst (λ (zs : List Ty). length g.rows.items < length zs) args lt))
    ∙ ap (λ x. x ∷ drop (suc (suc n)) f.args.now) (sym (is ∙ ap (λ (zs : List Ty). get_or zs (length g.rows.items) t) args ∙ ap (λ k. get_or f.args.now k t) m)) in
    let front : map (term_at ts) g.rows.items ≡ map (term_at ts) f.rows.items ++ term_at ts row ∷ [] = ap (map (term_at ts)) rows ∙ map-append (term_at ts) f.rows.items (row ∷ []) in
    let rest : drop (suc (length g.rows.items)) g.args.now ≡ drop (suc (suc n)) f.args.now = ap (λ k. drop (suc k) g.args.now) m ∙ ap (λ (zs : List Ty). drop (suc (suc n)) zs) args in
    let all : map (term_at ts) g.rows.items ++ instance_of σ (plain_type t) ∷ map (instance_of σ) (map plain_type (drop (suc (length g.rows.items)) g.args.now))
    ≡ map (term_at ts) f.rows.items ++ term_at ts row ∷ map (instance_of σ) (map plain_type (drop (suc n) f.args.now)) =
    ap₂ (λ xs ys. xs ++ instance_of σ (plain_type t) ∷ map (instance_of σ) (map plain_type ys)) front rest
    ∙ append_assoc (map (term_at ts) f.rows.items) (term_at ts row ∷ []) (instance_of σ (plain_type t) ∷ map (instance_of σ) (map plain_type (drop (suc (suc n)) f.args.now)))
    ∙ ap (λ xs. map (term_at ts) f.rows.items ++ term_at ts row ∷ map (instance_of σ) (map plain_type xs)) (sym tail) in
    ap₂ (λ u xs. union_type u (type_terms xs)) number all

-- the last argument was at hand
pub closed : (ts : List TypeTerm) (σ : ℕ → TypeTerm) (f : Frame) (row : ℕ) (rows : List ℕ) → rows ≡ f.rows.items ++ row ∷ [] → length f.args.now ≤ length rows → union_type f.number (terms_at ts rows) ≡ around ts σ f (term_at ts row)
closed ts σ f row rows is le =
    let m : length rows ≡ suc (length f.rows.items) = ap length is ∙ length-append f.rows.items (row ∷ []) ∙ omega arith in
    let none : drop (suc (length f.rows.items)) f.args.now ≡ [] = drop_of_length-le f.args.now {i = suc (length f.rows.items)} (omega arith) in
    ap (λ xs. union_type f.number (type_terms xs))
    (ap (map (term_at ts)) is ∙ map-append (term_at ts) f.rows.items (row ∷ []) ∙ ap (λ xs. map (term_at ts) f.rows.items ++ term_at ts row ∷ map (instance_of σ) (map plain_type xs)) (sym none))

-- the first argument of a union type is at hand
pub entered : (ts : List TypeTerm) (σ : ℕ → TypeTerm) (f : Frame) (t : Ty) → f.rows.items ≡ [] → 0 < length f.args.now → t ≡ get_or f.args.now 0 t → around ts σ f (instance_of σ (plain_type t)) ≡ union_type f.number (type_terms (map (instance_of σ) (map plain_type f.args.now)))
entered ts σ f t none some is =
    let whole : f.args.now ≡ t ∷ drop 1 f.args.now = drop-cons f.args.now 0 t some ∙ ap (λ x. x ∷ drop 1 f.args.now) (sym is) in
    ap (λ (rows : List ℕ). union_type f.number (type_terms (map (term_at ts) rows ++ instance_of σ (plain_type t) ∷ map (instance_of σ) (map plain_type (drop (suc (length rows)) f.args.now))))) none
    ∙ ap (λ zs. union_type f.number (type_terms (map (instance_of σ) (map plain_type zs)))) (sym whole)

-- what is found of one type holds of another that is the same
pub climbs_at : (σ : ℕ → TypeTerm) (a b : TypeTerm) (ts : List TypeTerm) (fs : List Frame) (c : Climbed) → a ≡ b → Climbs σ a ts fs c → Climbs σ b ts fs c
climbs_at σ a b ts fs c e h = subst (λ t. Climbs σ t ts fs c) e h

pub some_there : (args : List Ty) → (args ≡ [] → ⊥) → 0 < length args
some_there [] h = absurd (h refl)
some_there (t ∷ args) h = omega arith

-- one more type has its row
pub rows_push : (ts us : List TypeTerm) (rows : List ℕ) (args : List TypeTerm) (r : ℕ) (t : TypeTerm) → Extends ts us → RowsOf ts rows args → RowOf us r t → RowsOf us (rows ++ r ∷ []) (args ++ t ∷ [])
rows_push ts us rows args r t e h one =
    let le = extends_length ts us e in
    record {
      there = below_push (length us) rows r (λ k lt. let x : get_or rows k 0 < length ts = h.there k lt in omega arith) one.there;
      are = map-append (term_at us) rows (r ∷ []) ∙ ap₂ (λ xs x. xs ++ x ∷ []) (terms_on ts us rows e h.there ∙ h.are) one.is;
    }

pub env_on : (ts us : List TypeTerm) (env : List ℕ) (t : TypeTerm) → Extends ts us → AllBelow (length ts) env → over_rows us env t ≡ over_rows ts env t
env_on ts us env t e h = ap (λ xs. instance_of (type_at (type_terms xs)) t) (terms_on ts us env e h)

pub rows_step : (ts0 ts us : List TypeTerm) (env : List ℕ) (args : List Ty) (i : ℕ) (item : Ty) (rows : List ℕ) (r : ℕ) → Extends ts0 ts → Extends ts us → AllBelow (length ts0) env → i < length args → item ≡ get_or args i item
    → RowsOf ts rows (map (over_rows ts0 env) (map plain_type (take i args))) → RowOf us r (over_rows ts env (plain_type item)) → RowsOf us (rows ++ r ∷ []) (map (over_rows ts0 env) (map plain_type (take (i + 1) args)))
rows_step ts0 ts us env args i item rows r e f h lt is rs one =
    let o = over_rows ts0 env in
    let more : map o (map plain_type (take (i + 1) args)) ≡ map o (map plain_type (take i args)) ++ o (plain_type item) ∷ [] =
    ap (λ xs. map o (map plain_type xs)) (take_more args i item lt ∙ ap (λ x. take i args ++ x ∷ []) (sym is))
    ∙ ap (map o) (map-append plain_type (take i args) (item ∷ []))
    ∙ map-append o (map plain_type (take i args)) (plain_type item ∷ []) in
    subst (λ xs. RowsOf us (rows ++ r ∷ []) xs) (sym more)
    (rows_push ts us rows (map o (map plain_type (take i args))) r (o (plain_type item)) f rs (record { there = one.there; is = one.is ∙ env_on ts0 ts env (plain_type item) e h }))

-- a type over no rows is itself
abbrev mutual
  pub itself : (t : TypeTerm) → instance_of (type_at no_types) t ≡ t
  itself int_type = refl
  itself char_type = refl
  itself string_type = refl
  itself state_type = refl
  itself (variable_type v) = refl
  itself (union_type u ts) = ap (union_type u) (themselves ts)

  pub themselves : (ts : TypeTerms) → instances_of (type_at no_types) ts ≡ ts
  themselves no_types = refl
  themselves (type_then t ts) = ap₂ type_then (itself t) (themselves ts)
