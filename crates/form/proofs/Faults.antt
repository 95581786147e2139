-- Where a fault is: after the entries that come before it, and at one of the bytes.
use Rattle.std.proofs.Common.{◌≡◌, ℕ, suc, ◌+◌, ◌<◌, ◌≤◌, ltb, leb, List, [], ◌∷◌, ◌++◌, length, Some, None, Option, sym, refl, ap, ◌∙◌, subst, arith}
use Rattle.std.specs.List.{AllByRecursion, flat_map}
use Rattle.std.proofs.lemmas.List.{length-append}
use Rattle.std.proofs.lemmas.Bool.{ltb-true, cond_both}
use Rattle.leaf.specs.Bytes.{Bytes}
use Rattle.theory.specs.Entries.{Kind, clause, cofact, Part}
use Rattle.form.specs.declared.fault.Cause.TheVariants.{TooMuch}
use Rattle.form.specs.declared.fault.Fault.{Fault}
use Rattle.form.specs.Fields.{Field, cut}
use Rattle.form.specs.Meanings.{Seen, wrong, cell, goals, Ending, bad, unended, complete, Found, entry, fault, Meaning, row_fault, next_place, shape, entry_kind, goals_end, on_seen, closed, on_found, seen, ending, ending_of, found, row_means, row_of, meaning}
use Rattle.form.specs.Forms.{entry_form, book_form}
use Rattle.form.proofs.Rows.{field_bytes, HoldsBytes, cut_bytes, uncut}
use Rattle.form.proofs.WriteBack.{FoundWrites, found_writes}

-- how many bytes fields and what is left are
abbrev bytes_of : List Field → List ℕ → ℕ
bytes_of fs left = length (flat_map field_bytes fs ++ left)

-- a field's bytes are as many as its place moves on
bytes_more : (f : Field) (fs : List Field) (left : List ℕ) (place : ℕ) →
    next_place place f + bytes_of fs left ≡ place + bytes_of (f ∷ fs) left
bytes_more f fs left place =
    let x = flat_map field_bytes fs in
    let fields = length-append (field_bytes f) x in
    let whole = length-append (field_bytes f ++ x) left in
    let rest = length-append x left in
    omega arith

-- a fault, if there is one, counts n entries before it and lies at one of those places
abbrev pub Lies : ℕ → ℕ → ℕ → Option Fault → Type 0
Lies from to n None = Unit {0}
Lies from to n (Some x) = (x.entry ≡ n) × (from ≤ x.place) × (x.place < to)

module _ {V : Type 0} where
  -- a fault in an entry lies at one of those places
  abbrev EndLies : ℕ → ℕ → Ending V → Type 0
  EndLies from to (bad c at) = (from ≤ at) × (at < to)
  EndLies from to unended = Unit {0}
  EndLies from to (complete ps head body) = Unit {0}

  -- at later places, of which it is one too
  end_wider : (from then to : ℕ) (end : Ending V) → from ≤ then → EndLies then to end → EndLies from to end
  end_wider from then to (bad c at) h k = (omega (arith, k.0), k.1)
  end_wider from then to unended h k = tt
  end_wider from then to (complete ps head body) h k = tt

  goals_lie : (ps : List (Part V)) (head : ℕ) (body : List ℕ) (after : ℕ) (fs : List Field) (left : List ℕ) →
      EndLies after (after + bytes_of fs left) (goals_end ps head body after fs left)
  goals_lie ps head body after [] [] = tt
  goals_lie ps head body after [] (b ∷ bs) = (omega arith, omega arith)
  goals_lie ps head body after (f ∷ fs) left = let e = bytes_more f fs left after in (omega arith, omega arith)

  -- a fault that is found counts n entries before it and lies at one of those places
  abbrev FoundLies : ℕ → ℕ → ℕ → Found V → Type 0
  FoundLies from to n (entry e) = Unit {0}
  FoundLies from to n (fault x) = Lies from to n (Some x)

  closed_lies : (k : Kind) (place to n : ℕ) (end : Ending V) → place < to → EndLies place to end →
      FoundLies place to n (closed k place n end)
  closed_lies k place to n (bad c at) some lies = (refl, lies.0, lies.1)
  closed_lies k place to n unended some lies = (refl, omega arith, some)
  closed_lies clause place to n (complete ps head body) some lies = tt
  closed_lies cofact place to n (complete ps head []) some lies = tt
  closed_lies cofact place to n (complete ps head (b ∷ body)) some lies = (refl, omega arith, some)

module _ {V : Type 0} (wide : ℕ) (reading : List ℕ → Option V) where
  ending_lies : (ps : List (Part V)) (place : ℕ) (fs : List Field) (left : List ℕ) →
      EndLies place (place + bytes_of fs left) (ending wide reading ps place fs left)
  ending_lies ps place [] [] = tt
  ending_lies ps place [] (b ∷ bs) = (omega arith, omega arith)
  ending_lies ps place (f ∷ fs) left =
      go (seen wide reading ps f.contents (shape f.tag))
      (λ p. ending_lies (ps ++ p ∷ []) (next_place place f) fs left)
    where
      to : ℕ
      to = place + bytes_of (f ∷ fs) left

      later : (end : Ending V) → EndLies (next_place place f) (next_place place f + bytes_of fs left) end →
          EndLies place to end
      later end lies =
          end_wider place (next_place place f) to end (omega arith)
          (subst (λ n. EndLies (next_place place f) n end) (bytes_more f fs left place) lies)

      go : (s : Seen V) →
          ((p : Part V) → EndLies (next_place place f) (next_place place f + bytes_of fs left)
          (ending wide reading (ps ++ p ∷ []) (next_place place f) fs left)) →
          EndLies place to (on_seen s place (λ p. ending wide reading (ps ++ p ∷ []) (next_place place f) fs left)
          (λ head body. goals_end ps head body (next_place place f) fs left))
      go (wrong c) again = let e = bytes_more f fs left place in (omega arith, omega arith)
      go (cell p) again = later (ending wide reading (ps ++ p ∷ []) (next_place place f) fs left) (again p)
      go (goals head body) again =
          later (goals_end ps head body (next_place place f) fs left)
          (goals_lie ps head body (next_place place f) fs left)

  found_lies : (place n : ℕ) (f : Field) (o : Option Kind) → HoldsBytes f →
      FoundLies place (next_place place f) n (found wide reading place n f o)
  found_lies place n f None b = (refl, omega arith, omega arith)
  found_lies place n f (Some k) b =
      let cs = f.contents in
      let end = ending_of wide reading [] (place + 3) cs in
      let to : place + 3 + length (flat_map field_bytes (cut cs).fields ++ (cut cs).left) ≡ next_place place f =
      ap (λ xs. place + 3 + length xs) (uncut cs b) ∙ omega arith in
      let inner : EndLies (place + 3) (next_place place f) end =
      subst (λ m. EndLies (place + 3) m end) to (ending_lies [] (place + 3) (cut cs).fields (cut cs).left) in
      cond_both (leb 1024 n) (fault (row_fault TooMuch place n)) (closed k place n end)
      (FoundLies place (next_place place f) n)
      (λ _. (refl, omega arith, omega arith))
      (λ _.
      closed_lies k place (next_place place f) n end (omega arith)
      (end_wider place (place + 3) (next_place place f) end (omega arith) inner))

module _ {V : Type 0} (wide : ℕ) (written : V → List ℕ) (reading : List ℕ → Option V)
    (rewrites : (bs : List ℕ) (v : V) → Bytes bs → reading bs ≡ Some v → written v ≡ bs) where
  means_lies : (place n : ℕ) (fs : List Field) (left : List ℕ) → AllByRecursion HoldsBytes fs →
      let m = row_means wide reading place n fs left in
      Lies (place + length (book_form written m.entries)) (place + bytes_of fs left) (n + length m.entries)
      m.first_fault
  means_lies place n [] [] bytes = tt
  means_lies place n [] (b ∷ bs) bytes = (omega arith, omega arith, omega arith)
  means_lies place n (f ∷ fs) left bytes =
      go (found wide reading place n f (entry_kind f.tag))
      (found_lies wide reading place n f (entry_kind f.tag) bytes.0)
      (found_writes wide written reading rewrites place n f (entry_kind f.tag) refl bytes.0)
      more.first_fault refl (means_lies (next_place place f) (suc n) fs left bytes.1)
    where
      more : Meaning V
      more = row_means wide reading (next_place place f) (suc n) fs left

      to : ℕ
      to = place + bytes_of (f ∷ fs) left

      -- the same, of what follows the field
      Follows : Option Fault → Type 0
      Follows =
          Lies (next_place place f + length (book_form written more.entries)) (next_place place f + bytes_of fs left)
          (suc n + length more.entries)

      go : (x : Found V) → FoundLies place (next_place place f) n x →
          FoundWrites wide written reading rewrites (field_bytes f) x → (o : Option Fault) → more.first_fault ≡ o →
          Follows more.first_fault →
          Lies (place + length (book_form written (on_found x more).entries)) to
          (n + length (on_found x more).entries) (on_found x more).first_fault
      go (fault x) lies writes o is again =
          let e = bytes_more f fs left place in
          (omega (arith, lies.0), omega (arith, lies.1), omega (arith, lies.2))
      go (entry e) lies writes None is again =
          subst (Lies (place + length (book_form written (e ∷ more.entries))) to (n + suc (length more.entries)))
          (sym is) tt
      go (entry e) lies writes (Some x) is again =
          let one = bytes_more f fs left place in
          let long = length-append (entry_form written e) (book_form written more.entries) in
          let same : length (field_bytes f) ≡ length (entry_form written e) = ap length writes in
          let l : Follows (Some x) = subst Follows is again in
          subst (Lies (place + length (book_form written (e ∷ more.entries))) to (n + suc (length more.entries)))
          (sym is) (omega (arith, l.0), omega (arith, l.1), omega (arith, l.2))

  -- a fault counts the entries before it, and its place is one of the bytes' after the form of those entries
  pub fault_lies : (bs : List ℕ) (x : Fault) → Bytes bs → (meaning wide reading bs).first_fault ≡ Some x →
      (x.entry ≡ length (meaning wide reading bs).entries)
      × (length (book_form written (meaning wide reading bs).entries) ≤ x.place) × (x.place < length bs)
  unfolding meaning
  fault_lies bs x b =
      cond_both (ltb 65535 (length bs)) (record { entries = []; first_fault = Some (row_fault TooMuch 0 0) })
      (row_of wide reading 0 0 bs)
      (λ m.
      m.first_fault ≡ Some x →
      (x.entry ≡ length m.entries) × (length (book_form written m.entries) ≤ x.place) × (x.place < length bs))
      (λ long is.
      let same : row_fault TooMuch 0 0 ≡ x = cc in
      let some : 0 < length bs = omega (arith, ltb-true 65535 (length bs) long) in (
        ap (λ (y : Fault). y.entry) (sym same),
        omega arith,
        subst (λ (y : Fault). y.place < length bs) same some,
      ))
      (λ _ is.
      let row = row_of wide reading 0 0 bs in
      let from = 0 + length (book_form written row.entries) in
      let to = 0 + bytes_of (cut bs).fields (cut bs).left in
      let l : Lies from to (0 + length row.entries) (Some x) =
      subst (Lies from to (0 + length row.entries)) is
      (means_lies 0 0 (cut bs).fields (cut bs).left (cut_bytes bs b)) in
      let n : bytes_of (cut bs).fields (cut bs).left ≡ length bs = ap length (uncut bs b) in
      (omega (arith, l.0), omega (arith, l.1), omega (arith, l.2)))
