use Rattle.strip_model.proofs.Counting.{label_paths, AreLabelPaths-label_paths, HasAllPaths-label_paths, length-label_paths, length-le-path_count, HasAllPaths-from_count_of}
use Rattle.strip_model.proofs.LabelPathTest.{Decides-is_label_path}
use Rattle.strip_model.proofs.path_laws.label_path_laws.Goals as goal

pub returns-clause-test : goal.returns-clause-test
returns-clause-test c = Decides-is_label_path

pub returns-clause-count : goal.returns-clause-count
returns-clause-count c = λ S. (label_paths S, AreLabelPaths-label_paths S, HasAllPaths-label_paths S, length-label_paths S)

pub returns-clause-at_most : goal.returns-clause-at_most
returns-clause-at_most c = length-le-path_count

pub returns-clause-all_found : goal.returns-clause-all_found
returns-clause-all_found c = HasAllPaths-from_count_of
