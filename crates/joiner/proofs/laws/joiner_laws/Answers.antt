use Rattle.joiner.proofs.Halving.{IsHalf-root, IsHalf-path, MayJoin-joins, Joins-may, join_gain-forward, join_gain-backward}
use Rattle.joiner.proofs.Unique.{IsBest-one, IsOver-one}
use Rattle.joiner.proofs.laws.joiner_laws.Goals as goal

pub returns : goal.returns
returns c = record {
  root = IsHalf-root;
  label = IsHalf-path;
  law = λ J f b inst hf hb. (MayJoin-joins J inst f b hf hb, Joins-may J inst f b hf hb);
  forward_bound = λ J f b inst joins. join_gain-forward J inst f b joins;
  backward_bound = λ J f b inst joins. join_gain-backward J inst f b joins;
  one_best = IsBest-one;
  one_first = IsOver-one;
}
