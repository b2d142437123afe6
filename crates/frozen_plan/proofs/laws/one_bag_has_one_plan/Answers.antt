use Rattle.frozen_plan.proofs.BagLemmas.{one_plan}
use Rattle.frozen_plan.proofs.laws.one_bag_has_one_plan.Goals as goal

pub returns : goal.returns
returns c = one_plan (record {
  order = c.one_bag_has_one_form.ensures.order;
  unique = c.one_bag_has_one_form.ensures.unique;
  form = c.one_bag_has_one_form.ensures.form;
})
