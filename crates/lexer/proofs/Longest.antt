-- The longest front whose bytes all pass a test.
use Rattle.std.proofs.Common.{◌≡◌, ℕ, Bool, List}
use Rattle.std.proofs.lemmas.List.Sums.{prefix_len-le-length, prefix_len_passes, prefix_len_stops, prefix_len_is}
use Rattle.lexer.specs.Bytes.{longest_run}
use Rattle.lexer.specs.Meanings.{RunOf}

pub run_of : (test : ℕ → Bool) (bs : List ℕ) → RunOf test bs (longest_run test bs)
run_of test bs = record {
  inside = prefix_len-le-length test bs;
  passes = λ k. prefix_len_passes test bs k 0;
  stops = prefix_len_stops test bs 0;
}

pub run_is : (test : ℕ → Bool) (bs : List ℕ) (n : ℕ) → RunOf test bs n → longest_run test bs ≡ n
run_is test bs n r = prefix_len_is test bs n 0 r.inside r.passes r.stops
