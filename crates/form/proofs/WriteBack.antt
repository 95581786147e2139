-- Writing back what was read: bytes without a fault are the form of the book that they mean, so each book has one form.
use Rattle.std.proofs.Common.{◌≡◌, ℕ, suc, ◌+◌, cond, eqb, ltb, leb, List, [], ◌∷◌, ◌++◌, length, take, Some, None, Option, sym, refl, ap, ◌∙◌, subst, append_assoc, append-nil, arith}
use Rattle.std.specs.List.{AllByRecursion, flat_map}
use Rattle.std.proofs.lemmas.List.{flat_map_more, take_at}
use Rattle.std.proofs.lemmas.Bool.{eqb-true, cond_both}
use Rattle.leaf.specs.Bytes.{Bytes, two_bytes}
use Rattle.theory.specs.Entries.{Kind, clause, cofact, Part, variable, leaf, node}
use Rattle.form.specs.declared.fault.Cause.TheVariants.{TooMuch}
use Rattle.form.specs.Fields.{Field, field_form, cut}
use Rattle.form.specs.Forms.{entry_tag, part_form, goals_form, entry_form, book_form}
use Rattle.form.specs.Meanings.{Seen, wrong, cell, goals, Ending, bad, unended, complete, Found, entry, fault, Meaning, row_fault, next_place, shape, entry_kind, goals_end, on_seen, closed, on_found, seen, ending, ending_of, found, row_means, row_of, meaning}
use Rattle.form.proofs.Rows.{field_bytes, HoldsBytes, cut_bytes, uncut}
use Rattle.form.proofs.Sights.{Shows, Good, seen_good}

-- a tag that stands for a kind of entry is the tag of that kind
kind_tag : (tag : ℕ) (k : Kind) → entry_kind tag ≡ Some k → tag ≡ entry_tag k
kind_tag tag k =
    let P : Option Kind → Type 0 = λ o. o ≡ Some k → tag ≡ entry_tag k in
    cond_both (eqb tag 1) (Some clause) (cond (eqb tag 2) (Some cofact) None) P
    (λ e s. let same : clause ≡ k = cc in eqb-true tag 1 e ∙ ap entry_tag same)
    (λ _.
    cond_both (eqb tag 2) (Some cofact) None P (λ e s. let same : cofact ≡ k = cc in eqb-true tag 2 e ∙ ap entry_tag same)
    (λ _ s. let z : ◌≡◌ {A = ℕ} 0 1 = cc in absurd (omega arith)))

module _ {V : Type 0} (wide : ℕ) (written : V → List ℕ) (reading : List ℕ → Option V)
    (rewrites : (bs : List ℕ) (v : V) → Bytes bs → reading bs ≡ Some v → written v ≡ bs) where
  -- the bytes of the cells of a list
  abbrev cells : List (Part V) → List ℕ
  cells ps = flat_map (part_form written) ps

  -- a cell is written as the field that it was read from
  cell_writes : (tag : ℕ) (bs : List ℕ) (p : Part V) → Bytes bs → Shows wide reading tag bs p →
      part_form written p ≡ field_form tag bs
  cell_writes tag bs variable b s = ap (λ t. field_form t []) (sym s.0) ∙ ap (field_form tag) (sym s.1)
  cell_writes tag bs (leaf v) b s =
      ap (λ t. field_form t (written v)) (sym s.0) ∙ ap (field_form tag) (rewrites bs v b s.1)
  cell_writes tag bs (node f args) b s =
      ap (λ t. field_form t (two_bytes f ++ args)) (sym s.0) ∙ ap (field_form tag) (sym s.1)

  -- a complete entry is written as those bytes
  abbrev EndWrites : List ℕ → Ending V → Type 0
  EndWrites bs (bad c at) = Unit {0}
  EndWrites bs unended = Unit {0}
  EndWrites bs (complete ps head body) = bs ≡ cells ps ++ goals_form written head body

  goals_write : (ps : List (Part V)) (head : ℕ) (body : List ℕ) (after : ℕ) (f : Field) (fs : List Field)
      (left : List ℕ) → field_bytes f ≡ goals_form written head body →
      EndWrites (cells ps ++ ((field_bytes f ++ flat_map field_bytes fs) ++ left)) (goals_end ps head body after fs left)
  goals_write ps head body after f [] [] e =
      ap (λ xs. cells ps ++ xs)
      (append-nil (field_bytes f ++ []) ∙ append-nil (field_bytes f) ∙ e)
  goals_write ps head body after f [] (b ∷ bs) e = tt
  goals_write ps head body after f (g ∷ fs) left e = tt

  ending_writes : (ps : List (Part V)) (place : ℕ) (fs : List Field) (left : List ℕ) → AllByRecursion HoldsBytes fs →
      EndWrites (cells ps ++ (flat_map field_bytes fs ++ left)) (ending wide reading ps place fs left)
  ending_writes ps place [] [] bytes = tt
  ending_writes ps place [] (b ∷ bs) bytes = tt
  ending_writes ps place (f ∷ fs) left bytes =
      go (seen wide reading ps f.contents (shape f.tag))
      (seen_good wide reading ps f.tag f.contents bytes.0)
      (λ p. ending_writes (ps ++ p ∷ []) (next_place place f) fs left bytes.1)
    where
      rest : List ℕ
      rest = flat_map field_bytes fs

      go : (s : Seen V) → Good wide reading ps f.tag f.contents s →
          ((p : Part V) →
          EndWrites (cells (ps ++ p ∷ []) ++ (rest ++ left))
          (ending wide reading (ps ++ p ∷ []) (next_place place f) fs left)) →
          EndWrites (cells ps ++ ((field_bytes f ++ rest) ++ left))
          (on_seen s place (λ p. ending wide reading (ps ++ p ∷ []) (next_place place f) fs left)
          (λ head body. goals_end ps head body (next_place place f) fs left))
      go (wrong c) good again = tt
      go (cell p) good again =
          let this : part_form written p ≡ field_bytes f = cell_writes f.tag f.contents p bytes.0 good.2 in
          let e : cells (ps ++ p ∷ []) ++ (rest ++ left) ≡ cells ps ++ ((field_bytes f ++ rest) ++ left) =
          ap (λ xs. xs ++ (rest ++ left)) (sym (flat_map_more (part_form written) [] ps p))
          ∙ append_assoc (cells ps) (part_form written p) (rest ++ left)
          ∙ ap (λ xs. cells ps ++ xs) (sym (append_assoc (part_form written p) rest left))
          ∙ ap (λ xs. cells ps ++ ((xs ++ rest) ++ left)) this in
          subst (λ xs. EndWrites xs (ending wide reading (ps ++ p ∷ []) (next_place place f) fs left)) e (again p)
      go (goals head body) good again =
          goals_write ps head body (next_place place f) f fs left
          (ap (field_form f.tag) good.4 ∙ ap (λ t. field_form t (head ∷ body)) good.3)

  -- an entry that is found is written as those bytes
  abbrev pub FoundWrites : List ℕ → Found V → Type 0
  FoundWrites bs (entry e) = bs ≡ entry_form written e
  FoundWrites bs (fault x) = Unit {0}

  closed_writes : (k : Kind) (place n : ℕ) (end : Ending V) (cs : List ℕ) → EndWrites cs end →
      FoundWrites (field_form (entry_tag k) cs) (closed k place n end)
  closed_writes k place n (bad c at) cs w = tt
  closed_writes k place n unended cs w = tt
  closed_writes clause place n (complete ps head body) cs w = ap (field_form 1) w
  closed_writes cofact place n (complete ps head []) cs w = ap (field_form 2) w
  closed_writes cofact place n (complete ps head (b ∷ body)) cs w = tt

  pub found_writes : (place n : ℕ) (f : Field) (o : Option Kind) → entry_kind f.tag ≡ o → HoldsBytes f →
      FoundWrites (field_bytes f) (found wide reading place n f o)
  found_writes place n f None e b = tt
  found_writes place n f (Some k) e b =
      let cs = f.contents in
      let end = ending_of wide reading [] (place + 3) cs in
      let row : EndWrites cs end =
      subst (λ xs. EndWrites xs end) (uncut cs b)
      (ending_writes [] (place + 3) (cut cs).fields (cut cs).left (cut_bytes cs b)) in
      cond_both (leb 1024 n) (fault (row_fault TooMuch place n)) (closed k place n end)
      (FoundWrites (field_bytes f)) (λ _. tt)
      (λ _.
      subst (λ t. FoundWrites (field_form t cs) (closed k place n end)) (sym (kind_tag f.tag k e))
      (closed_writes k place n end cs row))

  means_writes : (place n : ℕ) (fs : List Field) (left : List ℕ) → AllByRecursion HoldsBytes fs →
      (row_means wide reading place n fs left).first_fault ≡ None →
      flat_map field_bytes fs ++ left ≡ book_form written (row_means wide reading place n fs left).entries
  means_writes place n [] [] bytes sound = refl
  means_writes place n [] (b ∷ bs) bytes sound = let z : ◌≡◌ {A = ℕ} 0 1 = cc in absurd (omega arith)
  means_writes place n (f ∷ fs) left bytes sound =
      go (found wide reading place n f (entry_kind f.tag))
      (found_writes place n f (entry_kind f.tag) refl bytes.0)
      (means_writes (next_place place f) (suc n) fs left bytes.1) sound
    where
      rest : Meaning V
      rest = row_means wide reading (next_place place f) (suc n) fs left

      go : (x : Found V) → FoundWrites (field_bytes f) x →
          (rest.first_fault ≡ None → flat_map field_bytes fs ++ left ≡ book_form written rest.entries) →
          (on_found x rest).first_fault ≡ None →
          (field_bytes f ++ flat_map field_bytes fs) ++ left ≡ book_form written (on_found x rest).entries
      go (fault x) w again sound = let z : ◌≡◌ {A = ℕ} 0 1 = cc in absurd (omega arith)
      go (entry e) w again sound =
          append_assoc (field_bytes f) (flat_map field_bytes fs) left
          ∙ ap (λ xs. field_bytes f ++ xs) (again sound)
          ∙ ap (λ xs. xs ++ book_form written rest.entries) w

  -- bytes without a fault are the form of the book that they mean
  pub write_back : (bs : List ℕ) → Bytes bs → (meaning wide reading bs).first_fault ≡ None →
      bs ≡ book_form written (meaning wide reading bs).entries
  unfolding meaning
  write_back bs b =
      cond_both (ltb 65535 (length bs)) (record { entries = []; first_fault = Some (row_fault TooMuch 0 0) })
      (row_of wide reading 0 0 bs) (λ m. m.first_fault ≡ None → bs ≡ book_form written m.entries)
      (λ _ sound. let z : ◌≡◌ {A = ℕ} 0 1 = cc in absurd (omega arith))
      (λ _ sound. sym (uncut bs b) ∙ means_writes 0 0 (cut bs).fields (cut bs).left (cut_bytes bs b) sound)

  -- the entries before a fault are written as the bytes before what is left
  means_begin : (place n : ℕ) (fs : List Field) (left : List ℕ) → AllByRecursion HoldsBytes fs →
      (rest : List ℕ)
      × (flat_map field_bytes fs ++ left ≡ book_form written (row_means wide reading place n fs left).entries ++ rest)
  means_begin place n [] [] bytes = ([], refl)
  means_begin place n [] (b ∷ bs) bytes = (b ∷ bs, refl)
  means_begin place n (f ∷ fs) left bytes =
      go (found wide reading place n f (entry_kind f.tag))
      (found_writes place n f (entry_kind f.tag) refl bytes.0)
      (means_begin (next_place place f) (suc n) fs left bytes.1)
    where
      more : Meaning V
      more = row_means wide reading (next_place place f) (suc n) fs left

      all : List ℕ
      all = (field_bytes f ++ flat_map field_bytes fs) ++ left

      go : (x : Found V) → FoundWrites (field_bytes f) x →
          ((rest : List ℕ) × (flat_map field_bytes fs ++ left ≡ book_form written more.entries ++ rest)) →
          (rest : List ℕ) × (all ≡ book_form written (on_found x more).entries ++ rest)
      go (fault x) w again = (all, refl)
      go (entry e) w again = (
        again.0,
        append_assoc (field_bytes f) (flat_map field_bytes fs) left
            ∙ ap (λ xs. field_bytes f ++ xs) again.1
            ∙ sym (append_assoc (field_bytes f) (book_form written more.entries) again.0)
            ∙ ap (λ xs. (xs ++ book_form written more.entries) ++ again.0) w,
      )

  -- bytes begin with the form of the entries that they mean
  pub form_begins : (bs : List ℕ) → Bytes bs →
      let front = book_form written (meaning wide reading bs).entries in take (length front) bs ≡ front
  unfolding meaning
  form_begins bs b =
      cond_both (ltb 65535 (length bs)) (record { entries = []; first_fault = Some (row_fault TooMuch 0 0) })
      (row_of wide reading 0 0 bs)
      (λ m. take (length (book_form written m.entries)) bs ≡ book_form written m.entries)
      (λ _. refl)
      (λ _.
      let front = book_form written (row_of wide reading 0 0 bs).entries in
      let begins = means_begin 0 0 (cut bs).fields (cut bs).left (cut_bytes bs b) in
      let e : bs ≡ front ++ begins.0 = sym (uncut bs b) ∙ begins.1 in
      ap (take (length front)) e ∙ take_at front begins.0 (length front) refl)

  -- bytes without a fault that mean the same are the same
  pub one_form : (xs ys : List ℕ) → Bytes xs → Bytes ys → (meaning wide reading xs).first_fault ≡ None →
      meaning wide reading xs ≡ meaning wide reading ys → xs ≡ ys
  one_form xs ys b d sound same =
      let too : (meaning wide reading ys).first_fault ≡ None =
      ap (λ (m : Meaning V). m.first_fault) (sym same) ∙ sound in
      write_back xs b sound
      ∙ ap (λ (m : Meaning V). book_form written m.entries) same
      ∙ sym (write_back ys d too)
