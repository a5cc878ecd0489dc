pub mod SiteLists
pub mod SiteFacts
pub mod SiteOrder
pub mod ShadowChanges
