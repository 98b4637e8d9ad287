-- What is followed stays of its domain and format.
use Rattle.std.proofs.Common.{◌≡◌}
use Rattle.std.specs.Arc.{arc_value}
use Rattle.tests_of_journals.proofs.follows.followed.Given as goal

abbrev pub invariant-loop-place : goal.invariant-loop-place
invariant-loop-place l = record {
  format : l.follower.format ≡ l.format;
  domain : l.follower.domain ≡ arc_value l.domain;
}
