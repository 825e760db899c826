-- A look-up by name in a list of files.
use Rattle.std.proofs.Common.{◌≡◌, ℕ, ◌+◌, ◌<◌, cond, List, ◌∷◌, length, drop, get_or, suc, add-one, All, ◌≢◌, Some, sym, ap, ◌∙◌, nat_eq}
use Rattle.std.specs.Prelude.{string_bytes}
use Rattle.std.specs.Cmp.Lexicographic.{pointwise, texts_ties}
use Rattle.std.proofs.lemmas.Cmp.{nat_list_cmp_total}
use Rattle.std.specs.FinMap.{get, get-insert}
use Rattle.std.proofs.Math.Seq.{drop-cons}
use Rattle.mc_outside.specs.Named.{by_name, File, HaveDistinctNames}

pub by_name-more : (f : File) (fs : List File) (name : List ℕ) → get (by_name (f ∷ fs)) name ≡ cond (pointwise nat_eq name (string_bytes f.0)) (Some f.1.items) (get (by_name fs) name)
by_name-more f fs name = get-insert nat_list_cmp_total (by_name fs) (string_bytes f.0) f.1.items name ∙ ap (λ b. cond b (Some f.1.items) (get (by_name fs) name)) (sym (texts_ties name (string_bytes f.0)))

-- in files of distinct names no later file has the name of one before it
pub later_names_differ : (files : List File) (at : ℕ) (file : File) → at < length files → file ≡ get_or files at file → HaveDistinctNames (drop at files) → All (λ other. string_bytes file.0 ≢ string_bytes other.0) (drop (at + 1) files)
later_names_differ files at file inside is distinct =
    let parts : HaveDistinctNames (get_or files at file ∷ drop (suc at) files) = rw (drop-cons files at file inside) at distinct in
    rw (is, add-one) parts.0
