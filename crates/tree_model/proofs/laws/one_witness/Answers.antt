use Rattle.tree_model.proofs.OneTreeLemmas.{one_tree}
use Rattle.tree_model.proofs.OneWitnessLemmas.{one_witness}
use Rattle.tree_model.proofs.laws.one_witness.Goals as goal

pub returns : goal.returns
returns c = one_witness (record {
  tree = one_tree c.one_page.ensures c.one_chain.ensures;
  freelist = c.one_freelist.ensures;
  record_law = c.one_record.ensures;
  create = c.one_create.ensures;
})
