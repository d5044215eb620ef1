use Rattle.flash_layout.proofs.PlaceLemmas.{narrow_cells}
use Rattle.flash_layout.proofs.limits.a_catalog_has_a_layout.Goals as goal

pub returns : goal.returns
returns c =
    let limited = c.catalogs_are_limited.ensures c.args.cat.now c.a_catalog_is_short.ensures.catalog in
    record {
      layout = record {
        tree = limited.tree;
        following = c.files_follow.ensures c.args.cat.now;
        sums = c.files_lie_as_summed.ensures c.args.cat.now;
        order = c.files_lie_in_order.ensures c.args.cat.now;
        blocks = c.areas_are_whole_blocks.ensures c.args.cat.now;
        narrow = c.layout_is_small.ensures.narrow c.args.cat.now limited.tree;
        few = c.layout_is_small.ensures.few c.args.cat.now limited;
        cells = narrow_cells c.args.cat.now.schema limited.tree;
      };
    }
