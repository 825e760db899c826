-- What is known of the reader behind files.
use Rattle.std.proofs.Common.{◌≡◌, inl, inr, ℕ, suc, ◌+◌, ◌*◌, ◌≤◌, map, take, get_or, ◌<◌, List, [], ◌∷◌, ◌++◌, length, Option, Some, None, Ok, Err, refl, sym, ap, ap₂, ◌∙◌, subst, arith, append_assoc}
use Rattle.std.proofs.lemmas.List.{append-nil, map-append, take_all}
use Rattle.mc_term_data.specs.Plain.{PlainTerm}
use Rattle.mc_term_data.specs.declared.term.Term.{Term}
use Rattle.mc_source.specs.declared.rule.Broken.{Broken}
use Rattle.mc_decl_syntax.specs.declared.entry.Entry.{Entry}
use Rattle.mc_items.specs.Verdicts.{PlainVerdict, kept, breaks}
use Rattle.mc_decl_syntax.specs.declared.entry.ItemsFault.TheVariants as I
use Rattle.mc_decl_syntax.specs.Entries.{plain_entry, File, plain_files}
use Rattle.mc_items.specs.Files.{broken_in, too_long_in, IsWhole, IsRefusal}
use Rattle.mc_compile.specs.Reading.{plain_goal, greatest_sources, Reading, FileReads, FilesRead, QueryReads, counted, rules_of, rules_from, items_of, items_from, AreRead, PlainRead, plain_read, reading_rules, read_as, Reads}
use Rattle.mc_compile.specs.declared.given.CompileFault.{CompileFault}
use Rattle.mc_compile.specs.declared.given.CompileFault.TheVariants as C
use Rattle.mc_compile.specs.declared.reader.Reader.{Reader}
use Rattle.mc_compile.specs.Phases.{Breaks, Tells, Viewed}
use Rattle.mc_compile.specs.Sources.{Sources}
use Rattle.mc_compile.specs.code.Reader.{IsRejected, IsOneMore, IsQueryRead, IsLibraryRead}
use Rattle.mc_compile.proofs.Chains.{broken_up, none_broken}
use Rattle.mc_compile.proofs.Lists.{first_empty, second_empty, both_empty, map_more}

-- the bytes that files count
abbrev pub total : List (List ℕ) → ℕ
total [] = 0
total (t ∷ ts) = counted t + total ts

total_more : (ts : List (List ℕ)) (t : List ℕ) → total (ts ++ t ∷ []) ≡ total ts + counted t
total_more [] t = omega arith
total_more (u ∷ ts) t = let e : total (ts ++ t ∷ []) ≡ total ts + counted t = total_more ts t in omega arith

-- The reader is behind files, the first of which has the number `first`.
pub record AreDone (first : ℕ) (texts : List (List ℕ)) (reader : Reader) : Type 0 where
  pub readings : List Reading
  pub reads : FilesRead 0 texts readings
  pub number : reader.number ≡ first + length texts
  pub bytes : reader.bytes ≡ total texts
  pub few : reader.bytes ≤ 4194305 * length texts
  pub broken : reader.broken.items ≡ rules_from first readings
  pub items : reader.broken.items ≡ [] → plain_files reader.files.items ≡ items_from first readings

pub none_done : (first : ℕ) (reader : Reader) → reader.number ≡ first → reader.bytes ≡ 0 → reader.files.items ≡ [] → reader.broken.items ≡ [] → AreDone first [] reader
none_done first reader n b f w = record {
  readings = [];
  reads = tt;
  number = omega arith;
  bytes = b;
  few = omega arith;
  broken = w;
  items = λ _. ap plain_files f;
}

pub as_many : (n : ℕ) (ts : List (List ℕ)) (rs : List Reading) → FilesRead n ts rs → length rs ≡ length ts
as_many n [] [] h = refl
as_many n (t ∷ ts) (r ∷ rs) h = ap (λ k. suc k) (as_many (n + counted t) ts rs h.1)
as_many n [] (r ∷ rs) h = absurd h
as_many n (t ∷ ts) [] h = absurd h

reads_more : (n : ℕ) (ts : List (List ℕ)) (rs : List Reading) (t : List ℕ) (r : Reading) → FilesRead n ts rs → FileReads (n + total ts) t r → FilesRead n (ts ++ t ∷ []) (rs ++ r ∷ [])
reads_more n [] [] t r h k = let same : n + 0 ≡ n = omega arith in (subst (λ m. FileReads m t r) same k, tt)
reads_more n (u ∷ ts) (s ∷ rs) t r h k =
    let same : n + (counted u + total ts) ≡ n + counted u + total ts = omega arith in
    (h.0, reads_more (n + counted u) ts rs t r h.1 (subst (λ m. FileReads m t r) same k))
reads_more n [] (s ∷ rs) t r h k = absurd h
reads_more n (u ∷ ts) [] t r h k = absurd h

rules_more : (k : ℕ) (rs : List Reading) (r : Reading) → rules_from k (rs ++ r ∷ []) ≡ rules_from k rs ++ rules_of (k + length rs) r
rules_more k [] r = let same : k ≡ k + 0 = omega arith in append-nil (rules_of k r) ∙ ap (λ j. rules_of j r) same
rules_more k (s ∷ rs) r =
    let same : k + 1 + length rs ≡ k + length (s ∷ rs) = omega arith in
    ap (λ bs. rules_of k s ++ bs) (rules_more (k + 1) rs r) ∙ sym (append_assoc (rules_of k s) (rules_from (k + 1) rs) (rules_of (k + 1 + length rs) r))
    ∙ ap (λ j. (rules_of k s ++ rules_from (k + 1) rs) ++ rules_of j r) same

items_more : (k : ℕ) (rs : List Reading) (r : Reading) → items_from k (rs ++ r ∷ []) ≡ items_from k rs ++ items_of (k + length rs) r ∷ []
items_more k [] r = let same : k ≡ k + 0 = omega arith in ap (λ j. items_of j r ∷ []) same
items_more k (s ∷ rs) r =
    let same : k + 1 + length rs ≡ k + length (s ∷ rs) = omega arith in
    ap (λ fs. items_of k s ∷ fs) (items_more (k + 1) rs r) ∙ ap (λ j. items_of k s ∷ (items_from (k + 1) rs ++ items_of j r ∷ [])) same

pub files_more : (k : ℕ) (rs : List Reading) → length (items_from k rs) ≡ length rs
files_more k [] = refl
files_more k (r ∷ rs) = ap (λ n. suc n) (files_more (k + 1) rs)

counted_few : (t : List ℕ) → counted t ≤ 4194305
counted_few t = omega arith

length_more : (ts : List (List ℕ)) (t : List ℕ) → length (ts ++ t ∷ []) ≡ length ts + 1
length_more [] t = refl
length_more (u ∷ ts) t = omega (arith, length_more ts t)

-- behind one more file
pub one_done : (first : ℕ) (texts : List (List ℕ)) (text : List ℕ) (old new : Reader) → AreDone first texts old → IsOneMore text old new → AreDone first (texts ++ text ∷ []) new
one_done first texts text old new d m =
    let so_far : old.bytes ≡ 0 + total texts = let e = d.bytes in omega arith in
    let many : length d.readings ≡ length texts = as_many 0 texts d.readings d.reads in
    let place : old.number ≡ first + length d.readings = d.number ∙ ap (λ k. first + k) (sym many) in
    let rules : new.broken.items ≡ rules_from first d.readings ++ rules_of (first + length d.readings) m.reading =
    m.broken ∙ ap₂ (λ bs k. bs ++ rules_of k m.reading) d.broken place in
    record {
      readings = d.readings ++ m.reading ∷ [];
      reads = reads_more 0 texts d.readings text m.reading d.reads (subst (λ n. FileReads n text m.reading) so_far m.reads);
      number = let e = length_more texts text in let a = m.number in let b = d.number in omega arith;
      bytes = m.bytes ∙ ap (λ n. n + counted text) d.bytes ∙ sym (total_more texts text);
      few = let e = length_more texts text in let a = m.bytes in let b = d.few in let c = counted_few text in omega arith;
      broken = rules ∙ sym (rules_more first d.readings m.reading);
      items = λ sound.
          let whole : old.broken.items ++ rules_of old.number m.reading ≡ [] = sym m.broken ∙ sound in
          m.files (second_empty old.broken.items (rules_of old.number m.reading) whole)
          ∙ ap₂ (λ fs k. fs ++ items_of k m.reading ∷ []) (d.items (first_empty old.broken.items (rules_of old.number m.reading) whole)) place
          ∙ sym (items_more first d.readings m.reading);
    }

some_broken : (file : ℕ) → too_long_in file ≡ [] → ⊥
some_broken file e = cc

-- a file whose items break no rule
pub whole_file : (text : List ℕ) (entries : List Entry) (old new : Reader) → IsWhole old.number text entries → new.number ≡ old.number + 1 → new.bytes ≡ old.bytes + counted text → new.bytes ≤ greatest_sources
    → new.broken.items ≡ old.broken.items → new.files.items ≡ old.files.items ++ entries ∷ [] → IsOneMore text old new
whole_file text entries old new w n b short same f = record {
  reading = Some w.verdicts;
  reads = (w.short, (omega arith, w.items));
  number = n;
  bytes = b;
  broken = same ∙ sym (append-nil old.broken.items) ∙ ap (λ bs. old.broken.items ++ bs) (sym w.sound);
  files = λ _. ap plain_files f ∙ map-append (map plain_entry) old.files.items (entries ∷ []) ∙ ap (λ es. plain_files old.files.items ++ es ∷ []) w.all;
}

-- a file that is too long, or whose items break rules
pub faulty_file : (text : List ℕ) (broken : List Broken) (old new : Reader) → IsRefusal old.number text (I.Broken broken) → new.number ≡ old.number + 1 → new.bytes ≡ old.bytes + counted text → new.bytes ≤ greatest_sources
    → new.broken.items ≡ old.broken.items ++ broken → IsOneMore text old new
faulty_file text broken old new (inl r) n b short more = record {
  reading = None;
  reads = inl r.long;
  number = n;
  bytes = b;
  broken = more ∙ ap (λ bs. old.broken.items ++ bs) r.is;
  files = λ sound. absurd (some_broken old.number sound);
}
faulty_file text broken old new (inr r) n b short more = record {
  reading = Some r.verdicts;
  reads = (r.short, (omega arith, r.items));
  number = n;
  bytes = b;
  broken = more ∙ ap (λ bs. old.broken.items ++ bs) r.all;
  files = λ sound. absurd (r.some (r.all ∙ sound));
}

pub zero_more : (n k : ℕ) → n ≡ 0 + k → n ≡ k
zero_more n k e = omega arith

-- the same in a loop over files
pub next_done : {A : Type 0} (text_of : A → List ℕ) (xs : List A) (i : ℕ) (d : A) (first : ℕ) (text : List ℕ) (old new : Reader) → i < length xs → text ≡ text_of (get_or xs i d) → AreDone first (map text_of (take i xs)) old → IsOneMore text old new
    → AreDone first (map text_of (take (i + 1) xs)) new
next_done text_of xs i d first text old new inside is before m = subst (λ ts. AreDone first ts new) (sym (map_more text_of xs i d text inside is)) (one_done first (map text_of (take i xs)) text old new before m)

pub all_done : {A : Type 0} (text_of : A → List ℕ) (xs : List A) (i : ℕ) (first : ℕ) (reader : Reader) → length xs ≤ i → AreDone first (map text_of (take i xs)) reader → AreDone first (map text_of xs) reader
all_done text_of xs i first reader past d = subst (λ ys. AreDone first (map text_of ys) reader) (take_all i xs past) d

-- a file without faults has none under another number
sound_renumbered : (j k : ℕ) (vs : List (PlainVerdict × ℕ)) → broken_in j vs ≡ [] → broken_in k vs ≡ []
sound_renumbered j k [] e = refl
sound_renumbered j k ((kept i, line) ∷ vs) e = sound_renumbered j k vs e
sound_renumbered j k ((breaks r w, line) ∷ vs) e = cc

all_sound_renumbered : (j k : ℕ) (rs : List Reading) → rules_from j rs ≡ [] → rules_from k rs ≡ []
all_sound_renumbered j k [] e = refl
all_sound_renumbered j k (None ∷ rs) e = cc
all_sound_renumbered j k (Some vs ∷ rs) e =
    both_empty (broken_in k vs) (rules_from (k + 1) rs)
    (sound_renumbered j k vs (first_empty (broken_in j vs) (rules_from (j + 1) rs) e))
    (all_sound_renumbered (j + 1) (k + 1) rs (second_empty (broken_in j vs) (rules_from (j + 1) rs) e))

-- modules of a library, where none breaks a rule
pub library_done : (first : ℕ) (texts : List (List ℕ)) (reader : Reader) (files : List (List Entry)) → AreDone first texts reader → files ≡ reader.files.items → reader.broken.items ≡ [] → IsLibraryRead texts first files
library_done first texts reader files d f e = record {
  modules = d.readings;
  is_library = record { read = d.reads; whole = all_sound_renumbered first 0 d.readings (sym d.broken ∙ e) };
  items = ap plain_files f ∙ d.items e;
}

-- files and the query
abbrev pub sources : (texts : List (List ℕ)) (query : Option (List ℕ)) (goal : Option Term) (old new : Reader) → AreDone 0 texts old → IsQueryRead query goal old new → AreRead texts query
sources texts query goal old new d q = record {
  files = d.readings;
  goal = goal;
  goal_rules = q.rules;
  files_read = d.reads;
  goal_reads = subst (λ k. QueryReads k query goal q.rules) (zero_more old.number (length texts) d.number) q.reads;
}

rules_are : (texts : List (List ℕ)) (query : Option (List ℕ)) (goal : Option Term) (old new : Reader) (d : AreDone 0 texts old) (q : IsQueryRead query goal old new) → new.broken.items ≡ reading_rules (sources texts query goal old new d q)
rules_are texts query goal old new d q = q.broken ∙ ap (λ bs. bs ++ q.rules) d.broken

abbrev with_files : Option PlainTerm → List File → PlainRead
with_files goal files = record { files = files; goal = goal }

-- what the phase that reads tells where no rule is broken
pub has_read : (s : Sources) (goal : Option Term) (old new : Reader) (files : List (List Entry)) → AreDone 0 s.texts old → IsQueryRead s.query goal old new → files ≡ new.files.items → new.broken.items ≡ []
    → Tells Reads (Viewed plain_read) s (Ok (record { files = files; goal = goal }))
has_read s goal old new files d q f e =
    let r = sources s.texts s.query goal old new d q in
    let sound : reading_rules r ≡ [] = sym (rules_are s.texts s.query goal old new d q) ∙ e in (
      read_as r,
      ap (with_files (plain_goal goal)) (ap plain_files (f ∙ q.files) ∙ d.items (first_empty old.broken.items q.rules (sym q.broken ∙ e))),
      record { read = r; is = none_broken (reading_rules r) (read_as r) sound },
    )

-- and where rules are broken
pub is_unread : (s : Sources) (goal : Option Term) (old new : Reader) (fault : CompileFault) → AreDone 0 s.texts old → IsQueryRead s.query goal old new → IsRejected new.broken.items fault → Tells Reads (Viewed plain_read) s (Err fault)
is_unread s goal old new (C.Rejected bs) d q rejected =
    let r = sources s.texts s.query goal old new d q in
    let same : bs ≡ reading_rules r = rejected.0 ∙ rules_are s.texts s.query goal old new d q in
    record { read = r; is = ap (λ rules. Err (Breaks rules)) same ∙ broken_up (reading_rules r) (read_as r) (λ none. rejected.1 (same ∙ none)) }
is_unread s goal old new C.Memory d q rejected = tt
