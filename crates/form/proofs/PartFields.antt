-- The forms of cells and entries as fields, and how long they are.
use Rattle.std.proofs.Common.{◌≡◌, ℕ, suc, ◌≤◌, List, [], ◌∷◌, ◌++◌, map, length, sym, refl, ap, ◌∙◌, append_assoc, append-nil, arith}
use Rattle.std.specs.List.{AllByRecursion, flat_map}
use Rattle.std.proofs.lemmas.List.{length-append}
use Rattle.leaf.specs.Bytes.{two_bytes}
use Rattle.theory.specs.Entries.{Entry, Part, variable, leaf, node, PartsRules, EntryRules}
use Rattle.form.specs.Fields.{Field, cut}
use Rattle.form.specs.Forms.{entry_tag, part_form, goals_form, contents_form, entry_form, book_form}
use Rattle.form.proofs.Rows.{field_bytes, Short, recut}

joined_append : {X A : Type 0} (f : X → List A) (xs ys : List X) → flat_map f (xs ++ ys) ≡ flat_map f xs ++ flat_map f ys
joined_append f [] ys = refl
joined_append f (x ∷ xs) ys =
    ap (λ l. f x ++ l) (joined_append f xs ys) ∙ sym (append_assoc (f x) (flat_map f xs) (flat_map f ys))

all_join : {X : Type 0} (P : X → Type 0) (xs ys : List X) → AllByRecursion P xs → AllByRecursion P ys → AllByRecursion P (xs ++ ys)
all_join P [] ys a b = b
all_join P (x ∷ xs) ys a b = (a.0, all_join P xs ys a.1 b)

-- the field of the goals
abbrev pub goals_cell : ℕ → List ℕ → Field
goals_cell head body = record { tag = 19; contents = head ∷ body }

module _ {V : Type 0} (written : V → List ℕ) where
  -- the field of a cell
  abbrev pub part_field : Part V → Field
  part_field variable = record { tag = 16; contents = [] }
  part_field (leaf v) = record { tag = 17; contents = written v }
  part_field (node f args) = record { tag = 18; contents = two_bytes f ++ args }

  part_bytes : (p : Part V) → part_form written p ≡ field_bytes (part_field p)
  part_bytes variable = refl
  part_bytes (leaf v) = refl
  part_bytes (node f args) = refl

  parts_bytes : (ps : List (Part V)) → flat_map (part_form written) ps ≡ flat_map field_bytes (map part_field ps)
  parts_bytes [] = refl
  parts_bytes (p ∷ ps) =
      ap (λ xs. xs ++ flat_map (part_form written) ps) (part_bytes p)
      ∙ ap (λ xs. field_bytes (part_field p) ++ xs) (parts_bytes ps)

  -- the fields within an entry
  abbrev pub entry_fields : List (Part V) → ℕ → List ℕ → List Field
  entry_fields ps head body = map part_field ps ++ goals_cell head body ∷ []

  contents_bytes : (e : Entry V) →
      contents_form written e ≡ flat_map field_bytes (entry_fields e.parts e.head e.body)
  contents_bytes e =
      let last = goals_form written e.head e.body in
      ap (λ xs. xs ++ last) (parts_bytes e.parts)
      ∙ ap (λ xs. flat_map field_bytes (map part_field e.parts) ++ xs) (sym (append-nil last))
      ∙ sym (joined_append field_bytes (map part_field e.parts) (goals_cell e.head e.body ∷ []))

  -- the field of an entry
  abbrev pub entry_field : Entry V → Field
  entry_field e = record { tag = entry_tag e.kind; contents = contents_form written e }

  book_bytes : (es : List (Entry V)) → book_form written es ≡ flat_map field_bytes (map entry_field es)
  book_bytes [] = refl
  book_bytes (e ∷ es) = ap (λ xs. entry_form written e ++ xs) (book_bytes es)

  entries_short : (es : List (Entry V)) → length (book_form written es) ≤ 65535 → AllByRecursion Short (map entry_field es)
  entries_short [] h = tt
  entries_short (e ∷ es) h =
      let n = length-append (entry_form written e) (book_form written es) in
      (omega arith, entries_short es (omega arith))

  -- a book of no more bytes than may be is cut into its entries
  pub cut_book : (es : List (Entry V)) → length (book_form written es) ≤ 65535 →
      cut (book_form written es) ≡ record { fields = map entry_field es; left = [] }
  cut_book es h = ap cut (book_bytes es) ∙ recut (map entry_field es) (entries_short es h)

  module _ (wide : ℕ) (narrow : wide ≤ 16) (even : (v : V) → length (written v) ≡ wide) where
    parts_short : (j : ℕ) (ps : List (Part V)) → PartsRules j ps → AllByRecursion Short (map part_field ps)
    parts_short j [] r = tt
    parts_short j (variable ∷ ps) r = (omega arith, parts_short (suc j) ps r.1)
    parts_short j (leaf v ∷ ps) r = (omega (arith, even v), parts_short (suc j) ps r.1)
    parts_short j (node f args ∷ ps) r = (omega (arith, r.0.1), parts_short (suc j) ps r.1)

    -- what an entry holds is cut into its cells and goals
    pub cut_entry : (e : Entry V) → EntryRules e →
        cut (contents_form written e) ≡ record { fields = entry_fields e.parts e.head e.body; left = [] }
    cut_entry e r =
        let few : length e.body ≤ 8 = r.few_goals in
        ap cut (contents_bytes e)
        ∙ recut (entry_fields e.parts e.head e.body)
        (all_join Short (map part_field e.parts) (goals_cell e.head e.body ∷ [])
        (parts_short 0 e.parts r.parts)
        (omega arith, tt))
