-- What the names of modules mean.
use Rattle.std.proofs.Common.{◌≡◌, ℕ, zero, suc, ◌+◌, ◌-◌, ◌<◌, ◌≤◌, Bool, true, false, List, [], ◌∷◌, length, get_or, drop, refl, sym, ap, ◌∙◌, subst, arith, true≢false}
use Rattle.std.specs.Prelude.{Option, Some, None, slice_get, if◌then◌else◌}
use Rattle.std.specs.Str.{bytes_eq}
use Rattle.std.proofs.lemmas.List.{get_or-drop}
use Rattle.std.proofs.lemmas.Slice.Eq.{bytes_eq-Decides}
use Rattle.mc_decl_syntax.specs.Entries.{File}
use Rattle.mc_modules.specs.Files.{module_name, module_names}
use Rattle.mc_modules.specs.Visible.{library_size, has_name, first_named, or_first, module_of, file_at}
use Rattle.mc_modules.specs.Linked.{name_of, scope, scopes_from}
use Rattle.mc_names.specs.Linked.{module_from}

-- MODULES BY NAMES

names_at : (fs : List File) (k : ℕ) → get_or (module_names fs) k None ≡ module_name (get_or fs k [])
names_at [] k = refl
names_at (f ∷ fs) zero = refl
names_at (f ∷ fs) (suc k) = names_at fs k

name_is : (w : List ℕ) (f : File) (o : Option (List ℕ)) → module_name f ≡ o → has_name w o ≡ true → w ≡ name_of f
name_is w f None is has = absurd (true≢false (sym has))
name_is w f (Some v) is has = (bytes_eq-Decides w v).0 has ∙ let same : module_name f ≡ Some v = is in rw same refl

-- the first module of a name has it
first_has : (k : ℕ) (w : List ℕ) (ns : List (Option (List ℕ))) (j : ℕ) → first_named k w ns ≡ Some j → (i : ℕ) × (j ≡ k + i) × (has_name w (get_or ns i None) ≡ true)
first_has k w [] j is = absurd (let clash : None ≡ Some j = is in cc)
first_has k w (n ∷ ns) j is = by (has_name w n) refl is (first_has (k + 1) w ns j)
  where
    by : (b : Bool) → has_name w n ≡ b → (if b then Some k else first_named (k + 1) w ns) ≡ Some j
        → (first_named (k + 1) w ns ≡ Some j → (i : ℕ) × (j ≡ (k + 1) + i) × (has_name w (get_or ns i None) ≡ true))
        → (i : ℕ) × (j ≡ k + i) × (has_name w (get_or (n ∷ ns) i None) ≡ true)
    by true has is more = let same : k ≡ j = cc in (0, omega (arith, same), has)
    by false has is more =
        let rest = more is in
        (suc rest.0, omega (arith, rest.1), rest.2)

module _ (files : List File) where
  named_at : (w : List ℕ) (k : ℕ) → has_name w (get_or (module_names files) k None) ≡ true → w ≡ name_of (file_at files k)
  named_at w k has = name_is w (file_at files k) (module_name (file_at files k)) refl (ap (has_name w) (sym (names_at files k)) ∙ has)

  -- the module that a name means has the name
  pub means_name : (w : List ℕ) (j : ℕ) → module_of files w ≡ Some j → w ≡ name_of (file_at files j)
  means_name w j is = by (first_named (length files - library_size) w (drop (length files - library_size) (module_names files))) refl is
    where
      by : (o : Option ℕ) → first_named (length files - library_size) w (drop (length files - library_size) (module_names files)) ≡ o → or_first o (first_named 0 w (module_names files)) ≡ Some j → w ≡ name_of (file_at files j)
      by None e is =
          let it = first_has 0 w (module_names files) j is in
          let same : it.0 ≡ j = omega (arith, it.1) in
          named_at w j (subst (λ i. has_name w (get_or (module_names files) i None) ≡ true) same it.2)
      by (Some k) e is =
          let it = first_has (length files - library_size) w (drop (length files - library_size) (module_names files)) j (e ∙ is) in
          named_at w j
          (subst (λ i. has_name w (get_or (module_names files) i None) ≡ true) (sym it.1)
          (ap (has_name w) (sym (get_or-drop (length files - library_size) (module_names files) it.0 None)) ∙ it.2))

  -- SCOPES

  scope_from : (own k : ℕ) (fs : List File) → k < length fs → slice_get (scopes_from files own fs) k ≡ Some (scope files (own + k))
  scope_from own k [] below = absurd (omega (arith, below))
  scope_from own zero (f ∷ fs) below = let here : own ≡ own + 0 = omega arith in ap (λ j. Some (scope files j)) here
  scope_from own (suc k) (f ∷ fs) below =
      let next : (own + 1) + k ≡ own + suc k = omega arith in
      scope_from (own + 1) k fs (omega (arith, below)) ∙ ap (λ j. Some (scope files j)) next

  pub scope_at : (own : ℕ) → own < length files → slice_get (scopes_from files 0 files) own ≡ Some (scope files own)
  scope_at own below =
      let here : 0 + own ≡ own = omega arith in
      scope_from 0 own files below ∙ ap (λ j. Some (scope files j)) here

  -- HOMES

  module _ (named : (k : ℕ) → k < length files → module_of files (name_of (file_at files k)) ≡ Some k) where
    home_from :
        (k own : ℕ) (fs : List File)
        → k + length fs ≡ length files → k ≤ own → own < k + length fs
        → module_from k (name_of (file_at files own)) (scopes_from files k fs) ≡ own
    home_from k own [] all behind below = absurd (omega (arith, below, behind))
    home_from k own (f ∷ fs) all behind below =
        by (bytes_eq (name_of (file_at files k)) (name_of (file_at files own))) refl
        (λ ahead. home_from (k + 1) own fs (omega (arith, all)) ahead (omega (arith, below)))
      where
        same_number : name_of (file_at files k) ≡ name_of (file_at files own) → k ≡ own
        same_number e =
            let first = named k (omega (arith, all)) in
            let second = named own (omega (arith, all, below)) in
            let same : Some k ≡ Some own = sym first ∙ ap (module_of files) e ∙ second in
            cc

        past : (k ≡ own → ⊥) → k + 1 ≤ own
        past other = omega (arith, behind, other)

        by : (b : Bool) → bytes_eq (name_of (file_at files k)) (name_of (file_at files own)) ≡ b
            → (k + 1 ≤ own → module_from (k + 1) (name_of (file_at files own)) (scopes_from files (k + 1) fs) ≡ own)
            → (if b then k else module_from (k + 1) (name_of (file_at files own)) (scopes_from files (k + 1) fs)) ≡ own
        by true e rest = same_number ((bytes_eq-Decides (name_of (file_at files k)) (name_of (file_at files own))).0 e)
        by false e rest =
            rest
            (past (λ same. true≢false (sym ((bytes_eq-Decides (name_of (file_at files k)) (name_of (file_at files own))).1 (ap (λ j. name_of (file_at files j)) same)) ∙ e)))

    pub home_is : (own : ℕ) → own < length files → module_from 0 (name_of (file_at files own)) (scopes_from files 0 files) ≡ own
    home_is own below = home_from 0 own files (omega arith) (omega arith) (omega (arith, below))
