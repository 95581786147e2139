-- Outputs that are filled piece by piece, and lists that are written element by element.
use Rattle.std.proofs.Common.{◌≡◌, ℕ, zero, suc, ◌+◌, ◌-◌, ◌≤◌, List, [], ◌∷◌, ◌++◌, length, take, drop, Some, sym, refl, ap, ◌∙◌, append_assoc, append-nil, add-one, arith}
use borrow.Rule.Slice.PartMut.{put_mid}
use Rattle.std.specs.List.{slice_get, flat_map}
use Rattle.std.proofs.lemmas.List.{drop_all, drop_at, drop-drop, length-append, length-drop, take_all, take_at, take_rest}
use Rattle.leaf.specs.Bytes.{two_bytes}
use Rattle.leaf.specs.Outputs.{Fills}
use Rattle.form.specs.Fields.{field_form}
use Rattle.wire.specs.Writes.{shown}

-- nothing written
pub fills_none : (xs : List ℕ) → Fills xs xs [] 0
fills_none xs = record { fits = omega arith; count = refl; output = refl }

-- a text, and then another into the part behind it
pub fills_then : (before mid t u part ys : List ℕ) (n m k : ℕ) → Fills before mid t n → Fills part ys u m → part ≡ drop n mid →
    length mid ≤ n + k → Fills before (put_mid n k mid ys) (t ++ u) (n + m)
fills_then before mid t u part ys n m k f h e l =
    let a : length t ≡ n = sym f.count in
    let rest : drop n mid ≡ drop n before =
    ap (drop n) f.output ∙ drop_at t (drop (length t) before) n a ∙ ap (λ i. drop i before) a in
    let front : take n mid ≡ t = ap (take n) f.output ∙ take_at t (drop (length t) before) n a in
    let past : drop k (drop n mid) ≡ [] = drop-drop k n mid ∙ drop_all (n + k) mid l in
    let size : length (t ++ u) ≡ n + length u = length-append t u ∙ ap (λ i. i + length u) a in
    let last : ys ≡ u ++ drop (n + length u) before =
    h.output ∙ ap (λ p. u ++ drop (length u) p) (e ∙ rest) ∙ ap (λ p. u ++ p) (drop-drop (length u) n before) in
    record {
      fits = omega (arith, f.fits, h.fits, ap length (e ∙ rest), length-drop n before, size, a);
      count = omega (arith, h.count, size);
      output =
          ap (λ p. p ++ (ys ++ drop k (drop n mid))) front ∙ ap (λ p. t ++ (ys ++ p)) past ∙ ap (λ p. t ++ p) (append-nil ys ∙ last)
          ∙ sym (append_assoc t u (drop (n + length u) before)) ∙ ap (λ i. (t ++ u) ++ drop i before) (sym size);
    }

-- the same text and the same number
pub fills_same : {before after t t' : List ℕ} {n n' : ℕ} → t ≡ t' → n ≡ n' → Fills before after t n → Fills before after t' n'
fills_same {before} {after} {t} {t'} {n} {n'} e d f =
    record {
      fits = omega (arith, f.fits, ap length e);
      count = sym d ∙ f.count ∙ ap length e;
      output = f.output ∙ ap (λ u. u ++ drop (length u) before) e;
    }

-- a text, and then another into all that lies behind it
pub fills_rest : {before mid t u ys : List ℕ} {n m : ℕ} → Fills before mid t n → Fills (take (length mid - n) (drop n mid)) ys u m →
    Fills before (put_mid n (length mid - n) mid ys) (t ++ u) (n + m)
fills_rest {before} {mid} {t} {u} {ys} {n} {m} f h =
    fills_then before mid t u (take (length mid - n) (drop n mid)) ys n m (length mid - n) f h (take_rest mid n) (omega arith)

-- a text does not change how long the output is
pub fills_long : {before mid t : List ℕ} {n : ℕ} → Fills before mid t n → length mid ≡ length before
fills_long {before} {mid} {t} {n} f =
    ap length f.output ∙ omega (arith, length-append t (drop (length t) before), length-drop (length t) before, f.fits)

-- how long what lies behind some bytes is
pub part_long : (mid : List ℕ) (n k : ℕ) → n + k ≤ length mid → k ≤ length (take (length mid - n) (drop n mid))
part_long mid n k h = omega (arith, ap length (take_rest mid n), length-drop n mid)

-- how long what lies behind a text is
pub rest_long : {before mid t : List ℕ} {n : ℕ} (k : ℕ) → Fills before mid t n → n + k ≤ length before →
    k ≤ length (take (length mid - n) (drop n mid))
rest_long {before} {mid} {t} {n} k f h = part_long mid n k (omega (arith, fills_long f, h))

-- a field: its first three bytes, and then what it holds
pub fills_field : {before mid ys : List ℕ} {n m size : ℕ} (tag : ℕ) (contents : List ℕ) → Fills before mid (tag ∷ two_bytes size) n →
    size ≡ length contents → Fills (take (length mid - n) (drop n mid)) ys contents m →
    Fills before (put_mid n (length mid - n) mid ys) (field_form tag contents) (n + m)
fills_field tag contents f e h = fills_same (ap (λ s. tag ∷ (two_bytes s ++ contents)) e) refl (fills_rest f h)

take_suc : {X : Type 0} (x : X) (xs : List X) (k : ℕ) → slice_get xs k ≡ Some x → take (suc k) xs ≡ take k xs ++ x ∷ []
take_suc x [] k h = let z : ◌≡◌ {A = ℕ} 0 1 = cc in absurd (omega arith)
take_suc x (y ∷ ys) zero h = let e : y ≡ x = cc in ap (λ z. z ∷ []) e
take_suc x (y ∷ ys) (suc k) h = ap (λ p. y ∷ p) (take_suc x ys k h)

-- one element more of a list
pub take_next : {X : Type 0} (xs : List X) (k : ℕ) (x : X) → slice_get xs k ≡ Some x → take (k + 1) xs ≡ take k xs ++ x ∷ []
take_next xs k x h = rw add-one (take_suc x xs k h)

module _ {X : Type 0} (f : X → List ℕ) where
  joined_suc : (xs : List X) (j : ℕ) → flat_map f (take (suc j) xs) ≡ flat_map f (take j xs) ++ shown f (slice_get xs j)
  joined_suc [] zero = refl
  joined_suc [] (suc j) = refl
  joined_suc (x ∷ xs) zero = append-nil (f x)
  joined_suc (x ∷ xs) (suc j) =
      ap (λ p. f x ++ p) (joined_suc xs j) ∙ sym (append_assoc (f x) (flat_map f (take j xs)) (shown f (slice_get xs j)))

  -- the texts of one element more
  pub joined_next : (xs : List X) (j : ℕ) → flat_map f (take (j + 1) xs) ≡ flat_map f (take j xs) ++ shown f (slice_get xs j)
  joined_next xs j = rw add-one (joined_suc xs j)

  -- no element's text goes past the end of all
  pub joined_within : (xs : List X) (j : ℕ) →
      length (flat_map f (take j xs)) + length (shown f (slice_get xs j)) ≤ length (flat_map f xs)
  joined_within [] zero = omega arith
  joined_within [] (suc j) = omega arith
  joined_within (x ∷ xs) zero = omega (arith, length-append (f x) (flat_map f xs))
  joined_within (x ∷ xs) (suc j) =
      omega (arith, joined_within xs j, length-append (f x) (flat_map f xs), length-append (f x) (flat_map f (take j xs)))

  -- how long the texts of one element more are
  pub long_next : (xs : List X) (j size r : ℕ) (u : List ℕ) → shown f (slice_get xs j) ≡ u → size ≡ length (flat_map f (take j xs)) →
      r ≡ length u → size + r ≡ length (flat_map f (take (j + 1) xs))
  long_next xs j size r u e a b =
      omega (arith, ap length (joined_next xs j), length-append (flat_map f (take j xs)) (shown f (slice_get xs j)), ap length e)

  -- the texts of all elements
  pub joined_all : (xs : List X) (j : ℕ) → length xs ≤ j → flat_map f (take j xs) ≡ flat_map f xs
  joined_all xs j h = ap (flat_map f) (take_all j xs h)

  -- one element's text more
  pub fills_next : (xs : List X) (j : ℕ) {before mid u ys : List ℕ} {n m : ℕ} → shown f (slice_get xs j) ≡ u →
      Fills before mid (flat_map f (take j xs)) n → Fills (take (length mid - n) (drop n mid)) ys u m →
      Fills before (put_mid n (length mid - n) mid ys) (flat_map f (take (j + 1) xs)) (n + m)
  fills_next xs j e g h =
      fills_same (ap (λ v. flat_map f (take j xs) ++ v) (sym e) ∙ sym (joined_next xs j)) refl (fills_rest g h)

  -- there is room for it
  pub room_next : (xs : List X) (j : ℕ) {before mid u : List ℕ} {n : ℕ} → shown f (slice_get xs j) ≡ u →
      Fills before mid (flat_map f (take j xs)) n → length (flat_map f xs) ≤ length before →
      length u ≤ length (take (length mid - n) (drop n mid))
  room_next xs j {u = u} e g h =
      rest_long (length u) g (omega (arith, joined_within xs j, ap length e, g.count))
