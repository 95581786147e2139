-- What bytes mean keeps the rules of a book, whatever the bytes are.
use Rattle.std.proofs.Common.{◌≡◌, ℕ, suc, ◌+◌, ◌<◌, ◌≤◌, ltb, leb, List, [], ◌∷◌, ◌++◌, length, Some, None, Option, sym, refl, subst, add-zero, zero-add, arith}
use Rattle.std.specs.List.{AllByRecursion, slice_get}
use Rattle.std.proofs.lemmas.List.{length_push}
use Rattle.std.proofs.lemmas.Bool.{leb-false, cond_both}
use Rattle.leaf.specs.Bytes.{Bytes}
use Rattle.theory.specs.Entries.{Entry, Kind, clause, cofact, Part, PartRules, PartsRules, IsNode, EntryRules, BookRules}
use Rattle.form.specs.declared.fault.Cause.TheVariants.{TooMuch}
use Rattle.form.specs.Fields.{Field, cut}
use Rattle.form.specs.Meanings.{Seen, wrong, cell, goals, Ending, bad, unended, complete, Found, entry, fault, Meaning, row_fault, next_place, shape, entry_kind, goals_end, on_seen, closed, on_found, seen, ending, ending_of, found, row_means, row_of, meaning}
use Rattle.form.proofs.Rows.{HoldsBytes, cut_bytes}
use Rattle.form.proofs.Sights.{Good, seen_good}

module _ {V : Type 0} where
  parts_push : (j : ℕ) (ps : List (Part V)) (p : Part V) → PartsRules j ps → PartRules (j + length ps) p →
      PartsRules j (ps ++ p ∷ [])
  parts_push j [] p r h = (subst (λ n. PartRules n p) (add-zero j) h, tt)
  parts_push j (x ∷ ps) p r h =
      let e : j + suc (length ps) ≡ suc j + length ps = omega arith in
      (r.0, parts_push (suc j) ps p r.1 (subst (λ n. PartRules n p) e h))

  some_cell : (ps : List (Part V)) (n : ℕ) → IsNode (slice_get ps n) → 1 ≤ length ps
  some_cell [] n h = absurd h
  some_cell (p ∷ ps) n h = omega arith

  -- a complete entry keeps the rules, but for a co-fact's body
  abbrev EndKeeps : Ending V → Type 0
  EndKeeps (bad c at) = Unit {0}
  EndKeeps unended = Unit {0}
  EndKeeps (complete ps head body) =
      (length ps ≤ 64) × PartsRules 0 ps × IsNode (slice_get ps head) × (length body ≤ 8) × AllByRecursion (λ b. IsNode (slice_get ps b)) body

  goals_keep : (ps : List (Part V)) (head : ℕ) (body : List ℕ) (after : ℕ) (fs : List Field) (left : List ℕ) →
      EndKeeps (complete ps head body) → EndKeeps (goals_end ps head body after fs left)
  goals_keep ps head body after [] [] h = h
  goals_keep ps head body after [] (b ∷ bs) h = tt
  goals_keep ps head body after (f ∷ fs) left h = tt

  -- an entry found as the n-th keeps the rules, and is not one too many
  abbrev pub FoundKeeps : ℕ → Found V → Type 0
  FoundKeeps n (entry e) = (n < 1024) × EntryRules e
  FoundKeeps n (fault x) = Unit {0}

  closed_keeps : (k : Kind) (place n : ℕ) (end : Ending V) → n < 1024 → EndKeeps end →
      FoundKeeps n (closed k place n end)
  closed_keeps k place n (bad c at) few h = tt
  closed_keeps k place n unended few h = tt
  closed_keeps clause place n (complete ps head body) few h = (
    few,
    record {
      some_part = some_cell ps head h.2;
      few_parts = h.0;
      parts = h.1;
      head = h.2;
      few_goals = h.3;
      goals = h.4;
      no_body = tt;
    },
  )
  closed_keeps cofact place n (complete ps head []) few h = (
    few,
    record {
      some_part = some_cell ps head h.2;
      few_parts = h.0;
      parts = h.1;
      head = h.2;
      few_goals = h.3;
      goals = h.4;
      no_body = refl;
    },
  )
  closed_keeps cofact place n (complete ps head (b ∷ body)) few h = tt

module _ {V : Type 0} (wide : ℕ) (reading : List ℕ → Option V) where
  ending_keeps : (ps : List (Part V)) (place : ℕ) (fs : List Field) (left : List ℕ) → length ps ≤ 64 → PartsRules 0 ps →
      AllByRecursion HoldsBytes fs → EndKeeps (ending wide reading ps place fs left)
  ending_keeps ps place [] [] few rules bytes = tt
  ending_keeps ps place [] (b ∷ bs) few rules bytes = tt
  ending_keeps ps place (f ∷ fs) left few rules bytes =
      go (seen wide reading ps f.contents (shape f.tag))
      (seen_good wide reading ps f.tag f.contents bytes.0)
      (λ p. ending_keeps (ps ++ p ∷ []) (next_place place f) fs left)
    where
      go : (s : Seen V) → Good wide reading ps f.tag f.contents s →
          ((p : Part V) → length (ps ++ p ∷ []) ≤ 64 → PartsRules 0 (ps ++ p ∷ []) → AllByRecursion HoldsBytes fs →
          EndKeeps (ending wide reading (ps ++ p ∷ []) (next_place place f) fs left)) →
          EndKeeps (on_seen s place (λ p. ending wide reading (ps ++ p ∷ []) (next_place place f) fs left)
          (λ head body. goals_end ps head body (next_place place f) fs left))
      go (wrong c) good again = tt
      go (cell p) good again =
          again p (omega (arith, length_push ps p, good.0))
          (parts_push 0 ps p rules (subst (λ n. PartRules n p) (sym (zero-add (length ps))) good.1)) bytes.1
      go (goals head body) good again =
          goals_keep ps head body (next_place place f) fs left (few, rules, good.0, good.2, good.1)

  -- what a field of the book's row is found to be keeps the rules
  pub found_keeps : (place n : ℕ) (f : Field) (o : Option Kind) → HoldsBytes f →
      FoundKeeps n (found wide reading place n f o)
  found_keeps place n f None b = tt
  found_keeps place n f (Some k) b =
      let end = ending_of wide reading [] (place + 3) f.contents in
      cond_both (leb 1024 n) (fault (row_fault TooMuch place n)) (closed k place n end) (FoundKeeps n) (λ e. tt)
      (λ e.
      closed_keeps k place n end (leb-false 1024 n e)
      (ending_keeps [] (place + 3) (cut f.contents).fields (cut f.contents).left (omega arith) tt
      (cut_bytes f.contents b)))

  -- an entry that is found keeps the rules
  pub found_rules : (place n : ℕ) (f : Field) (o : Option Kind) (e : Entry V) → Bytes f.contents →
      found wide reading place n f o ≡ entry e → EntryRules e
  found_rules place n f o e b is = (subst (FoundKeeps n) is (found_keeps place n f o b)).1

  -- it is not one too many
  pub found_few : (place n : ℕ) (f : Field) (o : Option Kind) (e : Entry V) → Bytes f.contents →
      found wide reading place n f o ≡ entry e → n < 1024
  found_few place n f o e b is = (subst (FoundKeeps n) is (found_keeps place n f o b)).0

  -- after n entries of at most 1024, the entries that follow keep the rules, and with the n they are at most 1024
  pub means_keeps : (place n : ℕ) (fs : List Field) (left : List ℕ) → n ≤ 1024 → AllByRecursion HoldsBytes fs →
      (n + length (row_means wide reading place n fs left).entries ≤ 1024)
      × AllByRecursion EntryRules (row_means wide reading place n fs left).entries
  means_keeps place n [] [] few bytes = (omega arith, tt)
  means_keeps place n [] (b ∷ bs) few bytes = (omega arith, tt)
  means_keeps place n (f ∷ fs) left few bytes =
      go (found wide reading place n f (entry_kind f.tag)) (found_keeps place n f (entry_kind f.tag) bytes.0)
      (means_keeps (next_place place f) (suc n) fs left)
    where
      rest : Meaning V
      rest = row_means wide reading (next_place place f) (suc n) fs left

      go : (x : Found V) → FoundKeeps n x →
          (suc n ≤ 1024 → AllByRecursion HoldsBytes fs →
          (suc n + length rest.entries ≤ 1024) × AllByRecursion EntryRules rest.entries) →
          (n + length (on_found x rest).entries ≤ 1024) × AllByRecursion EntryRules (on_found x rest).entries
      go (fault x) keeps again = (omega arith, tt)
      go (entry e) keeps again =
          let more = again keeps.0 bytes.1 in
          (omega (arith, more.0), (keeps.1, more.1))

  -- the same, of bytes
  pub row_rules : (place n : ℕ) (bs : List ℕ) → n ≤ 1024 → Bytes bs →
      BookRules (row_of wide reading place n bs).entries
  row_rules place n bs few b =
      let keeps = means_keeps place n (cut bs).fields (cut bs).left few (cut_bytes bs b) in
      record { few = omega (arith, keeps.0); entries = keeps.1 }

  -- what bytes mean keeps the rules of a book
  pub meaning_rules : (bs : List ℕ) → Bytes bs → BookRules (meaning wide reading bs).entries
  unfolding meaning
  meaning_rules bs b =
      cond_both (ltb 65535 (length bs)) (record { entries = []; first_fault = Some (row_fault TooMuch 0 0) })
      (row_of wide reading 0 0 bs) (λ m. BookRules m.entries) (λ _. record { few = omega arith; entries = tt })
      (λ _. row_rules 0 0 bs (omega arith) b)
