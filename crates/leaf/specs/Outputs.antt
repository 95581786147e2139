-- What a call leaves in a supplied output. Assumes nothing.
use Rattle.std.specs.Prelude.{◌≡◌, ℕ, ◌<◌, ◌≤◌, List, ◌++◌, length, drop}

module _ (before after text : List ℕ) where
  -- the text stands at the output's front, what lies behind it is unaltered, and its length is the answer
  pub record Fills (n : ℕ) : Type 0 where
    pub fits : length text ≤ length before
    pub count : n ≡ length text
    pub output : after ≡ text ++ drop (length text) before

  -- the output is shorter than the text, and unaltered
  pub record Short : Type 0 where
    pub lacks : length before < length text
    pub output : after ≡ before
