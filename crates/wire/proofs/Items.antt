-- What a field was read as, from the kind of field and the outcome of its tests.
use Rattle.std.proofs.Common.{◌≡◌, ℕ, ◌<◌, ◌≤◌, Bool, true, false, ltb, List, [], ◌∷◌, length, get_or, drop, Err, Option, Result, sym, refl, ap, ◌∙◌, subst, arith, Bor}
use Rattle.std.specs.List.{list_all}
use Rattle.std.proofs.lemmas.List.{length-map}
use Rattle.theory.specs.Entries.{Part, variable, node}
use Rattle.book.specs.declared.entry.Node.{Node}
use Rattle.book.specs.Answers.{listed}
use Rattle.form.specs.declared.fault.Cause.{Cause}
use Rattle.form.specs.declared.fault.Cause.TheVariants.{TooMuch, WrongCell}
use Rattle.form.specs.declared.fault.Fault.{Fault}
use Rattle.form.specs.Meanings.{Seen, cell, goals, inner_fault, leaf_seen, node_at, seen, shape, wrong}
use Rattle.wire.specs.declared.field.Field.{Field}
use Rattle.wire.specs.declared.field.Field.TheVariants as fields
use Rattle.wire.specs.declared.item.Item.{Item}
use Rattle.wire.specs.declared.spot.Spot.{Spot}
use Rattle.wire.specs.Marks.{marks_of, node_part}
use Rattle.wire.specs.Reads.{IsField, ItemMeans}
use Rattle.wire.proofs.Every.{every_marked}
use Rattle.wire.proofs.Seen.{goals_seen, goals_wrong, leaf_full, leaf_read, node_full, node_seen, node_wrong, variable_full, variable_seen}

-- a fault that is passed on names the cause that the field was seen to be wrong by
pub fault_item : {V : Type 0} (s : Seen V) (r : Result (Item V) Fault) (spot at : Spot) (k : Cause) (x : Fault) →
    ((y : Fault) × (r ≡ Err y) × (y ≡ x)) → x ≡ inner_fault k at.place at.entry → at ≡ spot → s ≡ wrong k → ItemMeans spot s r
fault_item s r spot at k x p e same w =
    let is : p.0 ≡ inner_fault k spot.place spot.entry = p.2 ∙ e ∙ ap (λ q. inner_fault k q.place q.entry) same in
    let cause : p.0.cause ≡ k = ap (λ f. f.cause) is in
    subst (ItemMeans spot s) (sym p.1)
    (w ∙ ap wrong (sym cause), is ∙ ap (λ c. inner_fault c spot.place spot.entry) (sym cause))

module _ {V : Type 0} (wide : ℕ) (reading : List ℕ → Option V) (ps : List (Part V)) (marks : List Bool)
    (marked : marks_of ps ≡ marks) (spot : Spot) (tag : ℕ) (bs : List ℕ) (field : Field) (is_field : IsField wide spot tag bs field) where
  many : length ps ≡ length marks
  many = sym (length-map ps node_part) ∙ ap length marked

  module _ (at : Spot) (e : field ≡ fields.Variable at) where
    is_variable : IsField wide spot tag bs (fields.Variable at)
    is_variable = subst (IsField wide spot tag bs) e is_field

    pub variable_spot : at ≡ spot
    variable_spot = is_variable.0

    pub no_room_variable : 64 ≤ length marks → seen wide reading ps bs (shape tag) ≡ wrong TooMuch
    no_room_variable h =
        ap (seen wide reading ps bs) is_variable.1
        ∙ variable_full wide reading ps bs is_variable.2 (omega (arith, many))

    pub a_variable : length marks < 64 → seen wide reading ps bs (shape tag) ≡ cell variable
    a_variable h =
        ap (seen wide reading ps bs) is_variable.1
        ∙ variable_seen wide reading ps bs is_variable.2 (omega (arith, many))

  module _ (at : Spot) (bytes : Bor (List ℕ)) (e : field ≡ fields.Leaf at bytes) where
    is_leaf : IsField wide spot tag bs (fields.Leaf at bytes)
    is_leaf = subst (IsField wide spot tag bs) e is_field

    pub leaf_spot : at ≡ spot
    leaf_spot = is_leaf.0

    pub no_room_leaf : 64 ≤ length marks → seen wide reading ps bs (shape tag) ≡ wrong TooMuch
    no_room_leaf h =
        ap (seen wide reading ps bs) is_leaf.1
        ∙ leaf_full wide reading ps bs is_leaf.2 (omega (arith, many))

    pub a_leaf : (o : Option V) → length marks < 64 → reading bytes.now ≡ o →
        seen wide reading ps bs (shape tag) ≡ leaf_seen o
    a_leaf o h r =
        ap (seen wide reading ps bs) is_leaf.1
        ∙ leaf_read wide reading ps bs o is_leaf.2 (omega (arith, many)) (ap reading (sym is_leaf.3) ∙ r)

  module _ (at : Spot) (symbol : ℕ) (args : Bor (List ℕ)) (e : field ≡ fields.Node at symbol args) where
    is_node : IsField wide spot tag bs (fields.Node at symbol args)
    is_node = subst (IsField wide spot tag bs) e is_field

    pub node_spot : at ≡ spot
    node_spot = is_node.0

    pub no_room_node : 64 ≤ length marks → seen wide reading ps bs (shape tag) ≡ wrong TooMuch
    no_room_node h =
        ap (seen wide reading ps bs) is_node.1
        ∙ node_full wide reading ps bs is_node.2 is_node.3 (omega (arith, many))

    lower : (r : Bool) → list_all (λ a. ltb a (length marks)) args.now ≡ r →
        list_all (λ a. ltb a (length ps)) (drop 2 bs) ≡ r
    lower r t = ap (λ n. list_all (λ a. ltb a n) (drop 2 bs)) many ∙ ap (list_all (λ a. ltb a (length marks))) (sym is_node.5) ∙ t

    pub bad_node : length marks < 64 → list_all (λ a. ltb a (length marks)) args.now ≡ false →
        seen wide reading ps bs (shape tag) ≡ wrong WrongCell
    bad_node h t =
        ap (seen wide reading ps bs) is_node.1
        ∙ node_wrong wide reading ps bs is_node.2 is_node.3 (omega (arith, many)) (lower false t)

    pub a_node : (n : Node) → length marks < 64 → n.symbol ≡ symbol → listed n.args ≡ args.now →
        list_all (λ a. ltb a (length marks)) args.now ≡ true →
        seen wide reading ps bs (shape tag) ≡ cell (node n.symbol (listed n.args))
    a_node n h s l t =
        let symbols = s ∙ is_node.4 in
        let lists = l ∙ is_node.5 in
        ap (seen wide reading ps bs) is_node.1
        ∙ node_seen wide reading ps bs is_node.2 is_node.3 (omega (arith, many)) (lower true t)
        ∙ ap (λ f. cell (node f (drop 2 bs))) (sym symbols) ∙ ap (λ xs. cell (node n.symbol xs)) (sym lists)

  module _ (at : Spot) (head : ℕ) (body : Bor (List ℕ)) (e : field ≡ fields.Goals at head body) where
    is_goals : IsField wide spot tag bs (fields.Goals at head body)
    is_goals = subst (IsField wide spot tag bs) e is_field

    pub goals_spot : at ≡ spot
    goals_spot = is_goals.0

    split : (xs : List ℕ) → 1 ≤ length xs → xs ≡ get_or xs 0 0 ∷ drop 1 xs
    split [] h = absurd (omega arith)
    split (x ∷ xs) h = refl

    nodes : (r : Bool) → list_all (λ n. get_or marks n false) (head ∷ body.now) ≡ r → list_all (node_at ps) bs ≡ r
    nodes r t =
        every_marked ps marks marked bs
        ∙ ap (list_all (λ n. get_or marks n false)) (split bs is_goals.2)
        ∙ ap (λ h. list_all (λ n. get_or marks n false) (h ∷ drop 1 bs)) (sym is_goals.4)
        ∙ ap (λ xs. list_all (λ n. get_or marks n false) (head ∷ xs)) (sym is_goals.5) ∙ t

    pub bad_goals : list_all (λ n. get_or marks n false) (head ∷ body.now) ≡ false → seen wide reading ps bs (shape tag) ≡ wrong WrongCell
    bad_goals t =
        ap (seen wide reading ps bs) is_goals.1
        ∙ goals_wrong wide reading ps bs is_goals.2 is_goals.3 (nodes false t)

    pub a_goals : (h : ℕ) (b : List ℕ) → h ≡ head → b ≡ body.now → list_all (λ n. get_or marks n false) (head ∷ body.now) ≡ true →
        seen wide reading ps bs (shape tag) ≡ goals h b
    a_goals h b eh eb t =
        ap (seen wide reading ps bs) is_goals.1
        ∙ goals_seen wide reading ps bs is_goals.2 is_goals.3 (nodes true t)
        ∙ ap (λ x. goals x (drop 1 bs)) (sym (eh ∙ is_goals.4)) ∙ ap (goals h) (sym (eb ∙ is_goals.5))
