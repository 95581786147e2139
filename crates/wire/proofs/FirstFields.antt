-- One field read off the front of an entry's contents.
use Rattle.std.proofs.Common.{◌≡◌, ℕ, ◌+◌, ◌-◌, ◌<◌, ◌≤◌, min, Bool, true, false, cond, List, [], ◌∷◌, ◌++◌, map, length, drop, Some, None, Ok, Err, Option, Result, sym, refl, ap, ◌∙◌, subst, arith}
use Rattle.std.proofs.lemmas.List.{length-drop, length-map, length-take, map_push, nil_from_length}
use Rattle.std.proofs.lemmas.Bool.{leb-true}
use Rattle.theory.specs.Entries.{Part, node, variable}
use Rattle.book.specs.Answers.{listed, part_of}
use Rattle.book.specs.declared.entry.EntryCell.{EntryCell}
use Rattle.form.specs.declared.fault.Cause.{Cause}
use Rattle.form.specs.declared.fault.Cause.TheVariants.{PastEnd, WrongGoals}
use Rattle.form.specs.declared.fault.Fault.{Fault}
use Rattle.form.specs.Fields.{Field, after_field, cut, first_field, size, whole}
use Rattle.form.specs.Meanings.{Ending, Seen, bad, complete, cell, ending_of, goals, goals_end, inner_fault, next_place, on_seen, seen, shape, unended, wrong}
use Rattle.form.proofs.Steps.{ending_nil, ending_part, ending_whole, goals_last, goals_more}
use Rattle.wire.specs.declared.cursor.Fields.{Fields}
use Rattle.wire.specs.declared.field.Split.{Split}
use Rattle.wire.specs.declared.item.Goals.{Goals as GoalsRead}
use Rattle.wire.specs.declared.item.Item.{Item}
use Rattle.wire.specs.declared.item.Item.TheVariants.{Cell, Goals}
use Rattle.wire.specs.declared.spot.Spot.{Spot}
use Rattle.wire.specs.Marks.{marks_of, node_part}
use Rattle.wire.specs.Reads.{FieldStep, ItemMeans, SplitOf, Stores, ending_left, new_marks}
use Rattle.wire.proofs.Seen.{cell_room}

module _ (bs : List ℕ) (s : Split) (of : SplitOf bs s) where
  -- how long the field and what follows it are
  pub lengths : length s.rest.now + (3 + length (first_field bs).contents) ≡ length bs
  lengths =
      let w : 3 + size bs ≤ length bs = leb-true (3 + size bs) (length bs) of.whole_field in
      let r : length s.rest.now ≡ length bs - (3 + size bs) = ap length of.rest ∙ length-drop (3 + size bs) bs in
      let c : length (first_field bs).contents ≡ min (size bs) (length (drop 3 bs)) = length-take (size bs) (drop 3 bs) in
      let d : length (drop 3 bs) ≡ length bs - 3 = length-drop 3 bs in
      omega arith

  pub shorter : length s.rest.now < length bs
  shorter = omega (arith, lengths)

  module _ {V : Type 0} (wide : ℕ) (reading : List ℕ → Option V) (ps : List (Part V)) (place : ℕ) where
    next_is : next_place place (first_field bs) ≡ place + (length bs - length s.rest.now)
    next_is = omega (arith, lengths)

    same_field : seen wide reading ps (first_field bs).contents (shape (first_field bs).tag)
        ≡ seen wide reading ps s.contents.now (shape s.tag)
    same_field =
        ap (λ xs. seen wide reading ps xs (shape (first_field bs).tag)) (sym of.contents)
        ∙ ap (λ t. seen wide reading ps s.contents.now (shape t)) (sym of.tag)

    -- what the contents come to, from what the field is
    after_seen : (t : _) → seen wide reading ps s.contents.now (shape s.tag) ≡ t →
        ending_of wide reading ps place bs
        ≡ on_seen t place (λ p. ending_of wide reading (ps ++ p ∷ []) (place + (length bs - length s.rest.now)) s.rest.now)
        (λ head body. goals_end ps head body (place + (length bs - length s.rest.now)) (cut s.rest.now).fields (cut s.rest.now).left)
    after_seen t e =
        ending_whole wide reading ps place bs of.whole_field
        ∙ ap (λ q. on_seen q place (λ p. ending_of wide reading (ps ++ p ∷ []) (next_place place (first_field bs)) (after_field bs))
        (λ head body. goals_end ps head body (next_place place (first_field bs)) (cut (after_field bs)).fields (cut (after_field bs)).left)) (same_field ∙ e)
        ∙ ap (λ n. on_seen t place (λ p. ending_of wide reading (ps ++ p ∷ []) n (after_field bs))
        (λ head body. goals_end ps head body n (cut (after_field bs)).fields (cut (after_field bs)).left)) next_is
        ∙ ap (λ (xs : List ℕ). on_seen t place (λ p. ending_of wide reading (ps ++ p ∷ []) (place + (length bs - length s.rest.now)) xs)
        (λ head body. goals_end ps head body (place + (length bs - length s.rest.now)) (cut xs).fields (cut xs).left)) (sym of.rest)

-- a fault that was made ends the contents as it says
pub ends_badly : {V : Type 0} (e : Ending V) (x : Fault) (k : Cause) (p n : ℕ) → x ≡ inner_fault k p n → e ≡ bad k p →
    (e ≡ bad x.cause x.place) × (x ≡ inner_fault x.cause x.place n)
ends_badly e x k p n is h =
    let cause : k ≡ x.cause = sym (ap (λ f. f.cause) is) in
    let place : p ≡ x.place = sym (ap (λ f. f.place) is) in (
      h ∙ ap (λ c. bad c p) cause ∙ ap (bad x.cause) place,
      is ∙ ap (λ c. inner_fault c p n) cause ∙ ap (λ q. inner_fault x.cause q n) place,
    )

-- a field was read off the front of the contents
module _ {V : Type 0} (wide : ℕ) (reading : List ℕ → Option V) (ps : List (Part V)) (before : Fields) (s : Split)
    (of : SplitOf before.rest.now s) where
  abbrev pub field_seen : Seen V
  field_seen = seen wide reading ps s.contents.now (shape s.tag)

  module _ (after : Fields) (rest : after.rest.now ≡ s.rest.now)
      (place : after.spot.place ≡ before.spot.place + (length before.rest.now - length s.rest.now)) where
    goes_on : (t : Seen V) → field_seen ≡ t →
        ending_left wide reading ps before
        ≡ on_seen t before.spot.place (λ p. ending_left wide reading (ps ++ p ∷ []) after)
        (λ head body. goals_end ps head body after.spot.place (cut after.rest.now).fields (cut after.rest.now).left)
    goes_on t e =
        after_seen before.rest.now s of wide reading ps before.spot.place t e
        ∙ ap (λ n. on_seen t before.spot.place (λ p. ending_of wide reading (ps ++ p ∷ []) n s.rest.now)
        (λ head body. goals_end ps head body n (cut s.rest.now).fields (cut s.rest.now).left)) (sym place)
        ∙ ap (λ (xs : List ℕ). on_seen t before.spot.place (λ p. ending_of wide reading (ps ++ p ∷ []) after.spot.place xs)
        (λ head body. goals_end ps head body after.spot.place (cut xs).fields (cut xs).left)) (sym rest)

    -- a cell, which was marked as it is, or the goals
    pub item_read : (item : Item V) → marks_of ps ≡ before.nodes.items → after.nodes.items ≡ before.nodes.items ++ new_marks item →
        ItemMeans before.spot field_seen (Ok item) → FieldStep wide reading ps before after (Ok (Some item))
    item_read (Cell c) m n e = (
      goes_on (cell (part_of c)) e,
      map_push node_part ps (part_of c) ∙ ap (λ ms. ms ++ node_part (part_of c) ∷ []) m ∙ sym n,
    )
    item_read (Goals g) m n e = goes_on (goals g.head (listed g.body)) e

  -- a field with a fault
  pub goes_wrong : (f : Fault) → ItemMeans {V = V} before.spot field_seen (Err f) → (after : Fields) →
      (r : Result (Option (Item V)) Fault) → ((y : Fault) × (r ≡ Err y) × (y ≡ f)) → FieldStep wide reading ps before after r
  goes_wrong f m after r p =
      let at : f.place ≡ before.spot.place = ap (λ x. x.place) m.1 in
      subst (FieldStep wide reading ps before after) (sym (p.1 ∙ ap Err p.2)) (
        after_seen before.rest.now s of wide reading ps before.spot.place (wrong f.cause) m.0 ∙ ap (bad f.cause) (sym at),
        m.1 ∙ ap (λ q. inner_fault f.cause q before.spot.entry) (sym at),
      )

-- nothing is left of the contents
pub ends_here : {V : Type 0} (wide : ℕ) (reading : List ℕ → Option V) (ps : List (Part V)) (s : Fields) → length s.rest.now ≡ 0 →
    ending_left wide reading ps s ≡ unended
ends_here wide reading ps s none =
    ap (ending_of wide reading ps s.spot.place) (nil_from_length s.rest.now none) ∙ ending_nil wide reading ps s.spot.place

-- what is left is no whole field
pub part_wrong : {V : Type 0} (wide : ℕ) (reading : List ℕ → Option V) (ps : List (Part V)) (before after : Fields) → 0 < length before.rest.now →
    whole before.rest.now ≡ false → (f : Fault) → f ≡ inner_fault PastEnd before.spot.place before.spot.entry →
    (r : Result (Option (Item V)) Fault) → ((y : Fault) × (r ≡ Err y) × (y ≡ f)) → FieldStep wide reading ps before after r
part_wrong wide reading ps before after some part f is r p =
    subst (FieldStep wide reading ps before after) (sym (p.1 ∙ ap Err p.2))
    (ends_badly _ f PastEnd _ _ is (ending_part wide reading ps before.spot.place before.rest.now some part))

-- some cells that are marked so
abbrev pub cells_marked : {V : Type 0} → List Bool → List (Part V)
cells_marked bs = map (λ b. cond b (node 0 []) variable) bs

marks_marked : (V : Type 0) (bs : List Bool) → marks_of (cells_marked {V = V} bs) ≡ bs
marks_marked V [] = refl
marks_marked V (true ∷ bs) = ap (λ xs. true ∷ xs) (marks_marked V bs)
marks_marked V (false ∷ bs) = ap (λ xs. false ∷ xs) (marks_marked V bs)

-- a cell that was read has room for its mark
pub mark_room : {V : Type 0} (wide : ℕ) (reading : List ℕ → Option V) (spot : Spot) (tag : ℕ) (bs : List ℕ) (marks : List Bool) (item : Item V) →
    length marks ≤ 64 →
    ((ps : List (Part V)) → marks_of ps ≡ marks → ItemMeans spot (seen wide reading ps bs (shape tag)) (Ok item)) →
    length marks + length (new_marks item) ≤ 64
mark_room {V} wide reading spot tag bs marks (Cell c) few h =
    let ps : List (Part V) = cells_marked marks in
    let m : marks_of ps ≡ marks = marks_marked V marks in
    let room = cell_room wide reading ps bs (shape tag) (part_of c) (h ps m) in
    omega (arith, room, length-map ps node_part, ap length m)
mark_room wide reading spot tag bs marks (Goals g) few h = omega (arith, few)

-- goals that were read, and what the contents come to by what follows them
module _ {V : Type 0} (wide : ℕ) (reading : List ℕ → Option V) (ps : List (Part V)) (before after : Fields) (g : GoalsRead)
    (goes : FieldStep wide reading ps before after (Ok (Some (Goals g)))) where
  pub ends_complete : length after.rest.now ≡ 0 → ending_left wide reading ps before ≡ complete ps g.head (listed g.body)
  ends_complete none =
      goes
      ∙ ap (λ xs. goals_end ps g.head (listed g.body) after.spot.place (cut xs).fields (cut xs).left) (nil_from_length after.rest.now none)
      ∙ goals_last ps g.head (listed g.body) after.spot.place

  pub ends_more : 0 < length after.rest.now → ending_left wide reading ps before ≡ bad WrongGoals after.spot.place
  ends_more some = goes ∙ goals_more ps g.head (listed g.body) after.spot.place after.rest.now some

  -- whatever complete entry the contents come to, its cells are those read
  ends_with : (qs : List (Part V)) (h : ℕ) (b : List ℕ) → ending_left wide reading ps before ≡ complete qs h b → ps ≡ qs
  ends_with qs h b e = only (cut after.rest.now).fields (cut after.rest.now).left (sym goes ∙ e)
    where
      only : (fs : List Field) (xs : List ℕ) →
          goals_end ps g.head (listed g.body) after.spot.place fs xs ≡ complete qs h b → ps ≡ qs
      only [] [] f = cc
      only [] (x ∷ xs) f = let z : ◌≡◌ {A = ℕ} 0 1 = cc in absurd (omega arith)
      only (x ∷ fs) xs f = let z : ◌≡◌ {A = ℕ} 0 1 = cc in absurd (omega arith)

-- whatever complete entry the contents come to, its cells are those read, where no further cell comes
no_cell : {V : Type 0} (wide : ℕ) (reading : List ℕ → Option V) (ps : List (Part V)) (before after : Fields) (r : Result (Option (Item V)) Fault) →
    FieldStep wide reading ps before after r → ((c : EntryCell V) → r ≡ Ok (Some (Cell c)) → ⊥) →
    (qs : List (Part V)) (h : ℕ) (b : List ℕ) → ending_left wide reading ps before ≡ complete qs h b → ps ≡ qs
no_cell wide reading ps before after (Err f) g n qs h b e = let f = sym g.0 ∙ e in let z : ◌≡◌ {A = ℕ} 0 1 = cc in absurd (omega arith)
no_cell wide reading ps before after (Ok None) g n qs h b e = let f = sym g ∙ e in let z : ◌≡◌ {A = ℕ} 0 1 = cc in absurd (omega arith)
no_cell wide reading ps before after (Ok (Some (Cell c))) g n qs h b e = absurd (n c refl)
no_cell wide reading ps before after (Ok (Some (Goals x))) g n qs h b e = ends_with wide reading ps before after x g qs h b e

-- the cells added are those of the entry that the contents come to, where no further cell comes
pub cells_stored : {V : Type 0} (wide : ℕ) (reading : List ℕ → Option V) (s t : Fields) (r : Result (Option (Item V)) Fault)
    (place : ℕ) (bs : List ℕ) (before all : List (EntryCell V)) (cs : List (EntryCell V)) → all ≡ before ++ cs →
    ending_of wide reading [] place bs ≡ ending_left wide reading (map part_of cs) s → FieldStep wide reading (map part_of cs) s t r →
    ((c : EntryCell V) → r ≡ Ok (Some (Cell c)) → ⊥) → Stores wide reading place bs before all
cells_stored wide reading s t r place bs before all cs e goes step n =
    (cs, e, λ ps head body h. no_cell wide reading (map part_of cs) s t r step n ps head body (sym goes ∙ h))
