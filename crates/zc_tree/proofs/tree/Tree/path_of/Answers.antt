-- The places that are found are those of a path of the tree.
use Rattle.zc_tree.proofs.SlotLaws.{file_is_there, places_are_a_path}
use Rattle.zc_tree.proofs.tree.Tree.path_of.Goals as goal

pub file_place-file_index-requires : goal.file_place-file_index-requires
file_place-file_index-requires c =
    file_is_there c.args.self.now c.as_slice-datasets.result.now c.args.dataset c.args.file c.dataset_place-dataset_index.result c.index-datasets-dataset_index.result c.as_slice.result.now
    c.as_slice-datasets.ensures c.dataset_place-dataset_index.ensures c.as_slice.ensures c.requires

pub returns : goal.returns
returns c =
    places_are_a_path c.args.self.now c.as_slice-datasets.result.now c.args.dataset c.args.file c.dataset_place-dataset_index.result c.file_place-file_index.result c.index-datasets-dataset_index.result c.as_slice.result.now
    c.as_slice-datasets.ensures c.dataset_place-dataset_index.ensures c.as_slice.ensures c.file_place-file_index.ensures
