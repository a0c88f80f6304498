-- Links of a file without a fault begin and end at nodes, and their numbers are in their ranges.
use Rattle.scenario.proofs.Common.{◌≡◌, ℕ, map, sym, ◌∙◌, length, refl, subst, None, true, ◌≤◌, length-map, list_all, is_link, links_fault, link_of}
use Rattle.scenario.proofs.Common.{node_names, node_of, field, body_of, Row, NetworkRows, network_rows_of, Texts, bytes_in}
use Rattle.edge_files.specs.declared.files.InFile.TheVariants as file
use Rattle.limits.specs.declared.TheConstants.{MAX_LINKS}
use Rattle.network.proofs.Free.{few_links, sound_links}

-- what nodes.csv and links.csv give
pub record AreNetworkRows (network : NetworkRows) : Type 0 where
  pub each_node : length network.node_names ≡ length network.nodes
  pub each_link : length network.link_names ≡ length network.links
  pub few : length network.links ≤ MAX_LINKS
  pub links : list_all (is_link (length network.nodes)) network.links ≡ true

pub network_free : (T : Texts) → links_fault (node_names (bytes_in T file.Nodes)) (bytes_in T file.Links) ≡ None → AreNetworkRows (network_rows_of T)
unfolding network_rows_of
network_free T none =
    let nodes = body_of (bytes_in T file.Nodes) in
    let links = bytes_in T file.Links in
    let names = node_names (bytes_in T file.Nodes) in
    let rows = map (link_of names) (body_of links) in
    let each_node : length names ≡ length (map node_of nodes) = length-map nodes (λ (row : Row). field row 0) ∙ sym (length-map nodes node_of) in
    record {
      each_node = each_node;
      each_link = length-map (body_of links) (λ (row : Row). field row 0) ∙ sym (length-map (body_of links) (link_of names));
      few = few_links names links rows none refl;
      links = subst (λ (n : ℕ). list_all (is_link n) rows ≡ true) each_node (sound_links names links rows none refl);
    }
